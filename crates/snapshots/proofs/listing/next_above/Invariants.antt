use Rattle.std.proofs.Common.{ℕ, List}
use Rattle.std.specs.Prelude.{IfSome}
use Rattle.buffers.specs.Reads.{HasOnlyRead}
use Rattle.snapshots.specs.Listed.{IsHigher, IsLeastAbove}
use Rattle.snapshots.proofs.listing.next_above.Given as goal

abbrev pub invariant-loop-k : goal.invariant-loop-k
invariant-loop-k g l = record {
  read : HasOnlyRead g.B.Blocks l.initial.blocks l.blocks;
  higher : IfSome l.next (IsHigher l.root.geometry.blocks l.above);
  least : (disk : ℕ → List ℕ) → g.B.Blocks.Shows l.initial.blocks disk → IsLeastAbove disk l.root l.above l.k l.next;
}
