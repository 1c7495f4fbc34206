use Rattle.std.proofs.Common.{rules, ◌≡◌, ◌∙◌, ap, sym, subst, Some, List, ℕ}
use Rattle.layout.specs.SnapRoot.{Snapshot, snapshot_in, snapshot_of}
use Rattle.layout.specs.declared.pointer.Pointer.TheVariants.{Block}
use Rattle.loading.specs.Snapshots.{IsSnapshotAt}
use Rattle.loading.proofs.SnapshotLaws.{snapshot_whole}
use Rattle.snapshots.specs.Found.{SpellsSnapshot, snapshot_found}
use Rattle.snapshots.proofs.SlotLaws.{one_spelled, is_spelled, other_name, same_name}
use Rattle.snapshots.proofs.finding.named_at.Goals as goal

pub returns-in_err-make_resident-clause-damaged : goal.returns-in_err-make_resident-clause-damaged
returns-in_err-make_resident-clause-damaged g c = λ disk most shows is snapshot.
    c.in_err-make_resident.ensures.damaged disk shows (search rules)
    (snapshot_whole c.args.geometry most disk (Block c.in-Block.place) (subst (IsSnapshotAt c.args.geometry most disk) c.in-Block.is snapshot))

pub returns-then-ne-clause-none : goal.returns-then-ne-clause-none
returns-then-ne-clause-none g c disk shows s spells same =
    let v = snapshot_of c.in-Some.snapshot in
    let is : snapshot_in c.args.geometry.layout (disk c.in-Block.place) ≡ Some v = is_spelled c.args.geometry.layout (disk c.in-Block.place) c.bytes.result.now v (c.bytes.ensures disk (c.in_ok-make_resident.ensures.same disk shows)) c.in-Some.ensures.found.2
    (c.snapshots_are_what_their_bytes_spell.ensures c.args.geometry.layout v c.in-Some.ensures.found.0 (c.in-Some.ensures.found.1 ∙ c.layout.ensures)).0 in
    let one : s ≡ v = one_spelled c.args.geometry.layout (disk c.in-Block.place) v s is (subst (λ p. SpellsSnapshot c.args.geometry.layout disk p s) c.in-Block.is spells) in
    other_name c.in-Some.snapshot.name.now c.args.name.now (sym c.ne.ensures ∙ c.if-ne.true) (sym (ap (λ (x : Snapshot). x.name) one) ∙ same)

pub returns-clause-found : goal.returns-clause-found
returns-clause-found g c disk shows =
    let v = snapshot_of c.in-Some.snapshot in
    let is : snapshot_in c.args.geometry.layout (disk c.in-Block.place) ≡ Some v = is_spelled c.args.geometry.layout (disk c.in-Block.place) c.bytes.result.now v (c.bytes.ensures disk (c.in_ok-make_resident.ensures.same disk shows)) c.in-Some.ensures.found.2
    (c.snapshots_are_what_their_bytes_spell.ensures c.args.geometry.layout v c.in-Some.ensures.found.0 (c.in-Some.ensures.found.1 ∙ c.layout.ensures)).0 in
    let same : c.in-Some.snapshot.name.now ≡ c.args.name.now = same_name c.in-Some.snapshot.name.now c.args.name.now (sym c.ne.ensures ∙ c.if-ne.false) in
    subst (λ p. SpellsSnapshot c.args.geometry.layout disk p (snapshot_found c.args.name.now (record { slot = c.args.slot; order = c.in-Some.snapshot.order; inode_file = c.in-Some.snapshot.inode_file }))) (sym c.in-Block.is)
    (is ∙ ap (λ (n : List ℕ). Some (record { order = c.in-Some.snapshot.order; name = n; inode_file = c.in-Some.snapshot.inode_file })) same)
