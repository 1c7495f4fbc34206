use Rattle.std.proofs.Common.{◌<◌, ℕ, List}
use Rattle.std.specs.Prelude.{slice_index_or}
use Rattle.layout.specs.declared.pointer.Pointer.TheVariants.{Hole}
use Rattle.buffers.specs.Reads.{HasOnlyRead}
use Rattle.loading.specs.Snapshots.{AreApartAt, IsSnapshotAt}
use Rattle.loading.proofs.snapshots.check_snapshots.Given as goal

abbrev pub invariant-loop-k : goal.invariant-loop-k
invariant-loop-k g l = record {
  read : HasOnlyRead g.B.Blocks l.fn.blocks l.blocks;
  are : (disk : ℕ → List ℕ) → g.B.Blocks.Shows l.fn.blocks disk → (j : ℕ) → j < l.k → IsSnapshotAt l.root.geometry l.root.generation disk (slice_index_or l.root.snapshots j Hole);
  apart : (disk : ℕ → List ℕ) → g.B.Blocks.Shows l.fn.blocks disk → (j i : ℕ) → j < l.k → i < j
      → AreApartAt l.root.geometry.layout disk (slice_index_or l.root.snapshots i Hole) (slice_index_or l.root.snapshots j Hole);
}
