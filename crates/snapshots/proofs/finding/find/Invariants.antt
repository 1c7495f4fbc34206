use Rattle.std.proofs.Common.{ℕ, List, ◌<◌}
use Rattle.std.specs.Prelude.{◌≢◌, slice_index_or}
use Rattle.layout.specs.SnapRoot.{Snapshot}
use Rattle.layout.specs.declared.pointer.Pointer.TheVariants.{Hole}
use Rattle.buffers.specs.Reads.{HasOnlyRead}
use Rattle.snapshots.specs.Found.{SpellsSnapshot}
use Rattle.snapshots.proofs.finding.find.Given as goal

abbrev pub invariant-loop-k : goal.invariant-loop-k
invariant-loop-k g l = record {
  read : HasOnlyRead g.B.Blocks l.initial.blocks l.blocks;
  others : (disk : ℕ → List ℕ) → g.B.Blocks.Shows l.initial.blocks disk → (j : ℕ) (s : Snapshot) → j < l.k
      → SpellsSnapshot l.root.geometry.layout disk (slice_index_or l.root.snapshots j Hole) s → s.name ≢ l.name;
}
