use Rattle.std.proofs.Common.{ℕ, ◌+◌, ◌<◌}
use Rattle.images.specs.Roots.{inode_part}
use Rattle.loading.specs.InodeBlocks.{IsInodeAt}
use Rattle.loading.proofs.inodes.is_inode_block.Given as goal

abbrev pub invariant-loop-k : goal.invariant-loop-k
invariant-loop-k l = (j : ℕ) → j < l.k → IsInodeAt l.version l.geometry (l.first + j) (inode_part l.bytes j)
