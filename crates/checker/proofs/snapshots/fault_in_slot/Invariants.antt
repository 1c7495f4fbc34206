use Rattle.std.proofs.Common.{◌<◌, ℕ, List}
use Rattle.std.specs.Prelude.{slice_index_or}
use Rattle.layout.specs.declared.pointer.Pointer.TheVariants.{Hole}
use Rattle.loading.specs.Snapshots.{AreApartAt}
use Rattle.checker.proofs.ReadLaws.{HasLooked}
use Rattle.checker.proofs.snapshots.fault_in_slot.Given as goal

abbrev pub invariant-loop-l : goal.invariant-loop-l
invariant-loop-l g l = record {
  look : HasLooked g.B.Blocks l.fn.blocks l.blocks;
  apart : (disk : ℕ → List ℕ) → g.B.Blocks.Shows l.fn.blocks disk → (j : ℕ) → j < l.l
      → AreApartAt l.root.geometry.layout disk (slice_index_or l.root.snapshots j Hole) (slice_index_or l.root.snapshots l.fn.k Hole);
}
