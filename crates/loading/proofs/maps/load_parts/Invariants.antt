use Rattle.std.proofs.Common.{◌≡◌, ℕ, List, length}
use Rattle.buffers.specs.Reads.{HasOnlyRead}
use Rattle.inode.specs.Bodies.{inode_block}
use Rattle.loading.specs.Readings.{AreParts, AreUnchanged}
use Rattle.loading.proofs.maps.load_parts.Given as goal

abbrev pub invariant-loop-j : goal.invariant-loop-j
invariant-loop-j g l = record {
  read : HasOnlyRead g.B.Blocks l.initial.blocks l.blocks;
  size : length l.parts.items ≡ l.j;
  parts : (disk : ℕ → List ℕ) → g.B.Blocks.Shows l.initial.blocks disk → AreParts (inode_block disk l.fn.inode) l.j l.parts.items;
  unchanged : AreUnchanged l.parts.items;
}
