use Rattle.std.proofs.Common.{◌<◌, ◌^◌, ℕ, List}
use Rattle.buffers.specs.Reads.{HasOnlyRead}
use Rattle.snapshots.specs.Taken.{HasNewestOrder}
use Rattle.snapshots.proofs.taking.newest.Given as goal

abbrev pub invariant-loop-k : goal.invariant-loop-k
invariant-loop-k g l = record {
  read : HasOnlyRead g.B.Blocks l.initial.blocks l.blocks;
  low : l.last < 2 ^ 62;
  newest : (disk : ℕ → List ℕ) → g.B.Blocks.Shows l.initial.blocks disk → HasNewestOrder disk l.root l.k l.last;
}
