use Rattle.std.proofs.Common.{rules, ◌≡◌, ◌∙◌, ap, refl, sym, subst, Some, arith}
use Rattle.layout.specs.SnapRoot.{Snapshot, snapshot_in, snapshot_of}
use Rattle.layout.specs.declared.pointer.Pointer.TheVariants.{Block}
use Rattle.loading.specs.Snapshots.{IsSnapshotAt}
use Rattle.loading.proofs.SnapshotLaws.{snapshot_whole}
use Rattle.snapshots.specs.Found.{SpellsSnapshot}
use Rattle.snapshots.proofs.SlotLaws.{one_spelled, is_spelled}
use Rattle.snapshots.proofs.listing.above_at.Goals as goal

pub returns-in_err-make_resident-clause-damaged : goal.returns-in_err-make_resident-clause-damaged
returns-in_err-make_resident-clause-damaged g c = λ disk most shows is snapshot.
    c.in_err-make_resident.ensures.damaged disk shows (search rules)
    (snapshot_whole c.args.geometry most disk (Block c.in-Block.place) (subst (IsSnapshotAt c.args.geometry most disk) c.in-Block.is snapshot))

pub returns-then-order-above-clause-is : goal.returns-then-order-above-clause-is
returns-then-order-above-clause-is g c disk shows =
    let v = snapshot_of c.in-Some.snapshot in
    let is : snapshot_in c.args.geometry.layout (disk c.in-Block.place) ≡ Some v = is_spelled c.args.geometry.layout (disk c.in-Block.place) c.bytes.result.now v (c.bytes.ensures disk (c.in_ok-make_resident.ensures.same disk shows)) c.in-Some.ensures.found.2
    (c.snapshots_are_what_their_bytes_spell.ensures c.args.geometry.layout v c.in-Some.ensures.found.0 (c.in-Some.ensures.found.1 ∙ c.layout.ensures)).0 in
    record {
      there = c.in-Block.is;
      snapshot = v;
      spells = subst (λ p. SpellsSnapshot c.args.geometry.layout disk p v) (sym c.in-Block.is) is;
      order = refl;
      above_it = omega arith;
    }

pub returns-else-order-above-clause-none : goal.returns-else-order-above-clause-none
returns-else-order-above-clause-none g c disk shows s spells =
    let v = snapshot_of c.in-Some.snapshot in
    let is : snapshot_in c.args.geometry.layout (disk c.in-Block.place) ≡ Some v = is_spelled c.args.geometry.layout (disk c.in-Block.place) c.bytes.result.now v (c.bytes.ensures disk (c.in_ok-make_resident.ensures.same disk shows)) c.in-Some.ensures.found.2
    (c.snapshots_are_what_their_bytes_spell.ensures c.args.geometry.layout v c.in-Some.ensures.found.0 (c.in-Some.ensures.found.1 ∙ c.layout.ensures)).0 in
    let one = ap (λ (x : Snapshot). x.order) (one_spelled c.args.geometry.layout (disk c.in-Block.place) v s is (subst (λ p. SpellsSnapshot c.args.geometry.layout disk p s) c.in-Block.is spells)) in
    omega (arith, one)
