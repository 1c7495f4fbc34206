use Rattle.std.proofs.Common.{◌≡◌, ℕ, ◌<◌, List}
use Rattle.std.specs.Prelude.{nat_lt, if◌then◌else◌}
use Rattle.layout.specs.Bytes.{zeros}
use Rattle.blocktree.specs.Trees.{IsChanged}
use Rattle.images.specs.Roots.{free_inode}
use Rattle.inode.specs.Bases.{IsBased}
use Rattle.inode.specs.Files.{file_block}
use Rattle.making.specs.Starts.{numbers_block}
use Rattle.making.proofs.inode_map.inode_map.Given as goal

abbrev pub invariant-loop-i : goal.invariant-loop-i
invariant-loop-i l = record {
  size : l.file.size ≡ l.size;
  base : IsBased (free_inode l.fn.geometry.layout) l.file.tree;
  changed : (j : ℕ) → j < l.i → IsChanged l.file.tree j;
  blocks : (disk : ℕ → List ℕ) (j : ℕ) → file_block disk l.file j ≡ (if nat_lt j l.i then numbers_block j else zeros 4096);
}
