use Rattle.std.proofs.Common.{◌≡◌, ◌⊎◌, ℕ, ◌+◌, ◌*◌, ◌<◌, ◌≤◌, List, slice_index}
use Rattle.buffers.specs.Reads.{HasOnlyRead}
use Rattle.blocktree.specs.Trees.{IsChanged}
use Rattle.inode.specs.Files.{file_block}
use Rattle.planning.specs.Space.{TellsSame}
use Rattle.planning.proofs.inode_map.put_parts.Given as goal
use Rattle.planning.specs.Inodes.{KeepsFile}

abbrev pub invariant-loop-i : goal.invariant-loop-i
invariant-loop-i g l = record {
  read : HasOnlyRead g.B.Blocks l.initial.blocks l.blocks;
  file : KeepsFile l.fn.file l.file;
  here : (disk : ℕ → List ℕ) → g.B.Blocks.Shows l.initial.blocks disk → (i k : ℕ) → k < 4096 → i < l.i → slice_index (file_block disk l.file i) k ≡ slice_index l.bytes (4096 * i + k);
  only : (disk : ℕ → List ℕ) → g.B.Blocks.Shows l.initial.blocks disk → (j : ℕ) → IsChanged l.file.tree j
      → (TellsSame l.bytes (file_block disk l.fn.file j) j → ⊥) ⊎ IsChanged l.fn.file.tree j;
  others : (disk : ℕ → List ℕ) (j : ℕ) → l.i ≤ j → file_block disk l.file j ≡ file_block disk l.fn.file j;
}
