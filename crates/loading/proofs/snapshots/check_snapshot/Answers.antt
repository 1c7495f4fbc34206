use Rattle.std.proofs.Common.{rules, subst}
use Rattle.layout.specs.declared.pointer.Pointer.TheVariants.{Block}
use Rattle.loading.specs.Snapshots.{IsSnapshotAt}
use Rattle.loading.proofs.SnapshotLaws.{snapshot_whole}
use Rattle.loading.proofs.snapshots.check_snapshot.Goals as goal

pub returns-in_err-make_resident-clause-damaged : goal.returns-in_err-make_resident-clause-damaged
returns-in_err-make_resident-clause-damaged g c = λ disk shows is snapshot.
    let r = c.args.root.now in
    c.in_err-make_resident.ensures.damaged disk shows (search rules)
    (snapshot_whole r.geometry r.generation disk (Block c.in-Block.place) (subst (IsSnapshotAt r.geometry r.generation disk) c.in-Block.is snapshot))
