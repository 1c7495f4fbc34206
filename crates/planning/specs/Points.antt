-- When all that changed is planned: what the new root then leads to.
use Rattle.std.specs.Prelude.{ℕ, ◌≡◌, ◌≤◌, true, false}
use Rattle.layout.specs.Places.{Blocks}
use Rattle.layout.specs.declared.root.Root.{Root}
use Rattle.images.specs.Nodes.{held, file_block}
use Rattle.images.specs.Roots.{HeldTree}
use Rattle.images.specs.BlockMap.{entry}
use Rattle.images.specs.Contents.{Content, content_of, tree_contents}
use Rattle.images.specs.Soundness.{SpellsInodes, MapsNumbers, HasNoHole}
use Rattle.planning.specs.Progress.{PlannedInodes}

-- the tree of what is planned, on a disk e that has the planned blocks
abbrev pub planned_tree : Blocks → PlannedInodes → HeldTree
planned_tree e p n = held e (p.inode n)

-- All is planned, on a disk e that has the planned blocks: the new root leads to the inodes of all
-- numbers and has these entries in its map, and the files from number 3 on hold these contents.
pub record IsComplete (r new : Root) (t : HeldTree) (e : Blocks) (after : ℕ → ℕ) (p : PlannedInodes) (files : ℕ → Content) : Type 0 where
  pub top : new.inode_file ≡ p.inode 0
  pub geometry : new.geometry ≡ r.geometry
  pub past : (n : ℕ) → r.geometry.inodes ≤ n → p.changed n ≡ false
  pub inodes : SpellsInodes r.geometry.inodes (file_block (held e (p.inode 0))) (planned_tree e p)
  pub entries : (b : ℕ) → entry (planned_tree e p) b ≡ after b
  pub content : (n : ℕ) → 3 ≤ n → p.changed n ≡ true → content_of (held e (p.inode n)) ≡ files n
  pub same : (n : ℕ) → 3 ≤ n → p.changed n ≡ false → files n ≡ tree_contents t n
  pub numbers : MapsNumbers (planned_tree e p)
  pub inode_map : HasNoHole (held e (p.inode 1))
  pub block_map : HasNoHole (held e (p.inode 2))
