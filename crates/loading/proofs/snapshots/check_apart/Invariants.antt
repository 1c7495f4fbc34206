use Rattle.std.proofs.Common.{◌<◌, ℕ, List}
use Rattle.std.specs.Prelude.{slice_index_or}
use Rattle.layout.specs.declared.pointer.Pointer.TheVariants.{Hole}
use Rattle.buffers.specs.Reads.{HasOnlyRead}
use Rattle.loading.specs.Snapshots.{AreApartAt}
use Rattle.loading.proofs.snapshots.check_apart.Given as goal

abbrev pub invariant-loop-earlier : goal.invariant-loop-earlier
invariant-loop-earlier g l = record {
  read : HasOnlyRead g.B.Blocks l.fn.blocks l.blocks;
  apart : (disk : ℕ → List ℕ) → g.B.Blocks.Shows l.fn.blocks disk → (j : ℕ) → j < l.earlier
      → AreApartAt l.geometry.layout disk (slice_index_or l.snapshots j Hole) (slice_index_or l.snapshots l.k Hole);
}
