use Rattle.std.proofs.Common.{◌∙◌, ℕ, ap}
use Rattle.images.specs.Soundness.{by_bytes}
use Rattle.inofile.specs.declared.inode_file.InodeFile.{InodeFile}
use Rattle.layout.specs.Limits.{Sizes}
use Rattle.layout.specs.Places.{Blocks}
use Rattle.layout.specs.declared.root.Root.{Root}
use Rattle.loading.specs.Images.{inodes_of}
use Rattle.model.specs.Records.{count_orphans}
use Rattle.system.specs.Restoring.{CountsKept, RestoresSlot, tree_in_slot}
use Rattle.system.proofs.RestoringLaws.{has_kept, passed_read, restores_volume}
use Rattle.system.proofs.restoring.load_restored.Goals as goal

abbrev Loaded : Blocks → Root → ℕ → InodeFile × ℕ → Type 0
Loaded disk r k loaded = RestoresSlot disk r k loaded.0 × CountsKept disk r k loaded.1

pub returns-in_err-inodes-clause-restores : goal.returns-in_err-inodes-clause-restores
returns-in_err-inodes-clause-restores g c = λ disk shows v pairs holds name finds.
    passed_read (Loaded disk c.args.root.now c.args.found.now.slot) c.from_residual.result c.in_err-inodes.field-0.0 c.from_residual.ensures.1 (c.in_err-inodes.ensures.views disk shows v name pairs holds finds)

pub returns-in_err-orphans-clause-restores : goal.returns-in_err-orphans-clause-restores
returns-in_err-orphans-clause-restores g c = λ disk shows v pairs holds name finds.
    let r = c.args.root.now in
    let k = c.args.found.now.slot in
    let are = c.in_ok-inodes.ensures.views disk shows v name pairs holds finds in
    let reads = c.in_ok-inodes.ensures.reads in
    let kept = finds.1.frozen in
    passed_read (Loaded disk r k) c.from_residual-in_err-orphans.result c.in_err-orphans.field-0.0 c.from_residual-in_err-orphans.ensures.1
    (c.in_err-orphans.ensures.counts by_bytes disk (inodes_of (tree_in_slot disk r k)) kept.0 (reads.same disk shows)
    (has_kept disk r k _ _ are (reads.count ∙ c.requires.count) kept.0 kept.1 kept.2))

pub returns-in_err-drop_orphans-clause-restores : goal.returns-in_err-drop_orphans-clause-restores
returns-in_err-drop_orphans-clause-restores g c = λ disk shows v pairs holds name finds.
    let r = c.args.root.now in
    let k = c.args.found.now.slot in
    let are = c.in_ok-inodes.ensures.views disk shows v name pairs holds finds in
    let reads = c.in_ok-inodes.ensures.reads in
    let counts = c.in_ok-orphans.ensures.reads in
    let kept = finds.1.frozen in
    passed_read (Loaded disk r k) c.from_residual-in_err-drop_orphans.result c.in_err-drop_orphans.field-0.0 c.from_residual-in_err-drop_orphans.ensures.1
    (c.in_err-drop_orphans.ensures.drops by_bytes disk (inodes_of (tree_in_slot disk r k)) kept.0 (counts.same disk (reads.same disk shows))
    (has_kept disk r k _ _ are (counts.count ∙ reads.count ∙ c.requires.count) kept.0 kept.1 kept.2))

pub returns-clause-restores : goal.returns-clause-restores
returns-clause-restores g c = λ disk shows v pairs holds name finds.
    let r = c.args.root.now in
    let k = c.args.found.now.slot in
    let are = c.in_ok-inodes.ensures.views disk shows v name pairs holds finds in
    let reads = c.in_ok-inodes.ensures.reads in
    let counts = c.in_ok-orphans.ensures.reads in
    let sized = counts.count ∙ reads.count ∙ c.requires.count in
    let shown = counts.same disk (reads.same disk shows) in (
      λ w held is.
          let has = has_kept disk r k _ _ are sized w held is in
          restores_volume disk r k _ _ are sized w _ (c.in_ok-drop_orphans.ensures.drops by_bytes disk (inodes_of (tree_in_slot disk r k)) w shown has)
          (c.in_ok-drop_orphans.ensures.room by_bytes w disk (inodes_of (tree_in_slot disk r k)) w shown has),
      λ w held is.
          c.in_ok-orphans.ensures.counts by_bytes disk (inodes_of (tree_in_slot disk r k)) w (reads.same disk shows) (has_kept disk r k _ _ are (reads.count ∙ c.requires.count) w held is)
          ∙ ap (λ (g : Sizes). count_orphans g.inodes w) are.geometry,
    )
