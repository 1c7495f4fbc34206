use Rattle.std.proofs.Common.{◌≡◌, ◌∙◌, ap, sym, Some, rules}
use Rattle.layout.specs.SnapRoot.{Snapshot, snapshot_in, snapshot_of}
use Rattle.layout.specs.declared.pointer.Pointer.TheVariants.{Block}
use Rattle.loading.proofs.SnapshotLaws.{snapshot_whole}
use Rattle.snapshots.proofs.SlotLaws.{one_spelled, is_spelled}
use Rattle.snapshots.proofs.listing.name_at.Goals as goal

pub returns-in_err-make_resident-clause-damaged : goal.returns-in_err-make_resident-clause-damaged
returns-in_err-make_resident-clause-damaged g c = λ disk most shows is snapshot.
    c.in_err-make_resident.ensures.damaged disk shows (search rules) (snapshot_whole c.args.geometry most disk (Block c.args.place) snapshot)

pub returns-clause-name : goal.returns-clause-name
returns-clause-name g c disk shows s spells =
    let v = snapshot_of c.in-Some.snapshot in
    let is : snapshot_in c.args.geometry.layout (disk c.args.place) ≡ Some v = is_spelled c.args.geometry.layout (disk c.args.place) c.bytes.result.now v (c.bytes.ensures disk (c.in_ok-make_resident.ensures.same disk shows)) c.in-Some.ensures.found.2
    (c.snapshots_are_what_their_bytes_spell.ensures c.args.geometry.layout v c.in-Some.ensures.found.0 (c.in-Some.ensures.found.1 ∙ c.layout.ensures)).0 in
    let one : s ≡ v = one_spelled c.args.geometry.layout (disk c.args.place) v s is spells in
    let copied : c.extend_from_slice.new.self.items ≡ c.in-Some.snapshot.name.now = search rules in
    copied ∙ sym (ap (λ (x : Snapshot). x.name) one)
