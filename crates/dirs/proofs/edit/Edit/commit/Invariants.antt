use Rattle.std.proofs.Common.{◌≡◌, ◌≤◌, ◌+◌, ℕ, List, unwrap_or}
use Rattle.std.specs.Ordering.{nat_cmp}
use Rattle.std.specs.BTreeMap as tree
use Rattle.blocktree.specs.Trees.{HasRoom, KeepsSound}
use Rattle.inode.specs.Bases.{KeepsBase}
use Rattle.inode.specs.Files.{file_block}
use Rattle.inode.specs.Room.{changed_below}
use Rattle.inode.proofs.GroupLaws.{changed_tops}
use Rattle.dirs.specs.Edits.{AreWhole}
use Rattle.dirs.proofs.edit.Edit.commit.Given as goal

abbrev pub decreases-loop-i : goal.decreases-loop-i
decreases-loop-i l = tree.btree_map_len l.changed

abbrev pub invariant-loop-i : goal.invariant-loop-i
invariant-loop-i l = record {
  fits : (i : ℕ) → tree.ContainsKey nat_cmp l.changed i → HasRoom l.file.tree i;
  same : (disk : ℕ → List ℕ) (i : ℕ) → unwrap_or (tree.get nat_cmp l.changed i) (file_block disk l.file i)
      ≡ unwrap_or (tree.get nat_cmp l.initial.changed i) (file_block disk l.initial.file i);
  layout : l.file.tree.layout ≡ l.initial.file.tree.layout;
  base : KeepsBase l.initial.file.tree l.file.tree;
  whole : (disk : ℕ → List ℕ) → AreWhole (file_block disk l.initial.file) → AreWhole (file_block disk l.file);
  sound : KeepsSound l.initial.file.tree l.file.tree;
  few : (n : ℕ) → changed_below l.file.tree n + tree.btree_map_len l.changed
      ≤ changed_below l.initial.file.tree n + tree.btree_map_len l.initial.changed;
  tops : changed_tops l.file.tree + tree.btree_map_len l.changed
      ≤ changed_tops l.initial.file.tree + tree.btree_map_len l.initial.changed;
}
