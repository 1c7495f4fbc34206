use Rattle.std.proofs.Common.{ℕ, ◌*◌, ◌<◌, List}
use Rattle.buffers.specs.Reads.{HasOnlyRead}
use Rattle.inode.specs.Files.{file_block}
use Rattle.loading.specs.InodeBlocks.{IsInodeBlock}
use Rattle.loading.proofs.inodes.check_inodes.Given as goal

abbrev pub invariant-loop-i : goal.invariant-loop-i
invariant-loop-i g l = record {
  read : HasOnlyRead g.B.Blocks l.initial.blocks l.blocks;
  are : (disk : ℕ → List ℕ) → g.B.Blocks.Shows l.initial.blocks disk → (j : ℕ) → j < l.i → IsInodeBlock l.version l.geometry (21 * j) (file_block disk l.file j);
}
