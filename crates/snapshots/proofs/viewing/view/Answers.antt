use Rattle.std.proofs.Common.{refl, rules, subst}
use Rattle.images.specs.Roots.{HeldTree}
use Rattle.images.specs.Soundness.{by_bytes}
use Rattle.loading.specs.Images.{AreInodesOf}
use Rattle.snapshots.specs.Found.{snapshot_found}
use Rattle.snapshots.proofs.viewing.view.Goals as goal

pub returns-in_err-inodes-clause-views : goal.returns-in_err-inodes-clause-views
returns-in_err-inodes-clause-views g c = λ disk shows v name pairs holds found.
    let root = c.args.root.now in
    let f = c.args.found.now in
    let ready = c.snapshots_are_readable.ensures.readable disk root v pairs f.slot (snapshot_found name f) found.1.tree holds found.0 found.1.frozen in
    let why = c.in_err-inodes.ensures.loads by_bytes disk shows (record root { inode_file = f.inode_file }) refl refl refl ready in
    search (rules, why)

pub returns-clause-views : goal.returns-clause-views
returns-clause-views g c = λ disk shows v name pairs holds found.
    let root = c.args.root.now in
    let f = c.args.found.now in
    let ready = c.snapshots_are_readable.ensures.readable disk root v pairs f.slot (snapshot_found name f) found.1.tree holds found.0 found.1.frozen in
    subst (λ (t : HeldTree). AreInodesOf disk root.version root.geometry t c.in_ok-inodes.inodes) (c.snapshots_are_readable.ensures.tree disk root f.slot (snapshot_found name f) found.0)
    (c.in_ok-inodes.ensures.loads by_bytes disk shows (record root { inode_file = f.inode_file }) refl refl refl ready)
