-- What a consistency point does.
use Rattle.std.specs.Prelude.{ℕ, ◌≡◌, ◌≢◌, ◌⊎◌, ◌↔◌, ◌≤◌, Bool, true, false}
use Rattle.layout.specs.Places.{Blocks}
use Rattle.layout.specs.Limits.{Sizes}
use Rattle.layout.specs.declared.inode.Inode.{Inode}
use Rattle.layout.specs.declared.pointer.Pointer.TheVariants.{Hole, Block}
use Rattle.layout.specs.declared.root.Root.{Root}
use Rattle.model.specs.Volumes.{Volume}
use Rattle.images.specs.Nodes.{held, Names, IsOnce, file_block}
use Rattle.images.specs.Roots.{HeldTree, inode_under, Reach, Whole, whole, Needs, slot, frozen_inode_file}
use Rattle.images.specs.BlockMap.{HasBit, entry, IsExact, IsSystem, NamesOnce}
use Rattle.images.specs.Contents.{Content, StandsAs, content_of, tree_contents}
use Rattle.images.specs.Soundness.{IsSoundFile, FitsNumber, SpellsInodes, MapsNumbers, HasNoHole}

-- Plane 0 of the map after the blocks of the changed files were taken out, as the old tree names
-- them, and put in, as the new one does. The old tree's own plane was this one.
abbrev pub MarksPlane : (ℕ → Bool) → HeldTree → ℕ → HeldTree → (ℕ → ℕ) → (ℕ → ℕ) → Type 0
MarksPlane changed old plane new before after =
    (b : ℕ) → HasBit 0 (after b)
    ↔ ((HasBit plane (before b) × ((n : ℕ) → changed n ≡ true → Names (old n) b → ⊥))
    ⊎ ((n : ℕ) × (changed n ≡ true) × Names (new n) b))

-- what becomes of the snapshot in slot k, and of plane k: it stays, is taken of the old root, or is
-- deleted
pub data Slot (e : Blocks) (r new : Root) (before after : ℕ → ℕ) (k : ℕ) : Type 0 where
  stays : (same : slot new k ≡ slot r k)
      → (plane : (b : ℕ) → HasBit k (after b) ↔ HasBit k (before b)) → Slot e r new before after k
  takes : (block : ℕ) → (there : slot new k ≡ Block block) → (free : before block ≡ 0)
      → (root_is : frozen_inode_file r.geometry.layout (e block) ≡ r.inode_file)
      → (plane : (b : ℕ) → HasBit k (after b) ↔ HasBit 0 (before b)) → Slot e r new before after k
  drops : (none : slot new k ≡ Hole) → (plane : (b : ℕ) → HasBit k (after b) → ⊥)
      → Slot e r new before after k

-- The tree that a point starts from, and its plane of the old map: the active one with plane 0, or
-- (to restore a snapshot) a frozen one with its own.
pub record IsBase (d : Blocks) (r : Root) (t : HeldTree) (plane : ℕ) : Type 0 where
  pub exact : (b : ℕ) → HasBit plane (entry (whole d r).active b) ↔ Reach t b
  pub once : NamesOnce t
  pub needed : (b : ℕ) → Reach t b → Needs r (whole d r) b
  pub read : (n : ℕ) → t n ≡ held d (t n).inode

-- What is planned, on a disk e that has the planned blocks: which files are changed, the inode of
-- each file, and the blocks that were taken for it: each node of it stands where it stood, or in
-- one of them. Of the files 0 to 2, which are the file system's own, nobody asks what they hold.
pub record IsPlannedOn (w : Whole) (t : HeldTree) (plane : ℕ) (r : Root) (e : Blocks) (new : Root) (files : ℕ → Content) : Type 0 where
  pub inode : ℕ → Inode
  pub changed : ℕ → Bool
  pub taken : ℕ → ℕ → Bool
  -- the inode file has the inodes
  pub inodes : (n : ℕ) → inode_under (held e new.inode_file) new.geometry.inodes n ≡ inode n
  pub geometry : new.geometry ≡ r.geometry
  -- a file
  pub content : (n : ℕ) → 3 ≤ n → changed n ≡ true → content_of (held e (inode n)) ≡ files n
  pub moves : (n m i b : ℕ) → changed n ≡ true → (held e (inode n)).place m i ≡ Block b
      → ((t n).place m i ≡ Block b) ⊎ (taken n b ≡ true)
  pub each : (n : ℕ) → changed n ≡ true → IsOnce (held e (inode n))
  pub stays : (n : ℕ) → changed n ≡ false → inode n ≡ (t n).inode
  pub same : (n : ℕ) → 3 ≤ n → changed n ≡ false → files n ≡ tree_contents t n
  -- what is taken was free, and is taken for one file
  pub free : (n b : ℕ) → taken n b ≡ true → entry w.active b ≡ 0
  pub once : (n m b : ℕ) → taken n b ≡ true → taken m b ≡ true → n ≡ m
  -- the map
  pub marks : MarksPlane changed t plane (λ n. held e (inode n)) (entry w.active) (entry (λ n. held e (inode n)))
  pub slots : (k : ℕ) → 1 ≤ k → k ≢ 31
      → Slot e r new (entry w.active) (entry (λ n. held e (inode n))) k
  pub system : (b : ℕ) → HasBit 31 (entry (λ n. held e (inode n)) b) ↔ IsSystem new b

-- the frozen tree in slot k after the point
pub data Frozen (r new : Root) (w now : Whole) (k : ℕ) : Type 0 where
  stays : (same : slot new k ≡ slot r k) → (tree_is : now.frozen k ≡ w.frozen k)
      → (head_is : now.head k ≡ w.head k) → Frozen r new w now k
  takes : (tree_is : now.frozen k ≡ w.active) → Frozen r new w now k
  drops : (none : slot new k ≡ Hole) → Frozen r new w now k

-- what stands under the new root
pub record IsUnderNewRoot (r new : Root) (w now : Whole) (files : ℕ → Content) : Type 0 where
  pub content : (n : ℕ) → 3 ≤ n → tree_contents now.active n ≡ files n
  pub frozen : (k : ℕ) → 1 ≤ k → k ≢ 31 → Frozen r new w now k
  pub exact : IsExact new now
  pub once : NamesOnce now.active

-- What is planned is in its grammar, on a disk e that has the planned blocks: the inode of each
-- file, and which are changed, being these.
pub record IsSoundPlan (s : Sizes) (e : Blocks) (inode : ℕ → Inode) (changed : ℕ → Bool) : Type 0 where
  pub files : (n : ℕ) → changed n ≡ true → IsSoundFile s (held e (inode n))
  pub kinds : (n : ℕ) → changed n ≡ true → FitsNumber n (inode n).kind
  pub inodes : SpellsInodes s.inodes (file_block (held e (inode 0))) (λ n. held e (inode n))
  pub numbers : MapsNumbers (λ n. held e (inode n))
  pub inode_map : HasNoHole (held e (inode 1))
  pub block_map : HasNoHole (held e (inode 2))

-- the files from number 3 on hold these objects
abbrev pub HoldObjects : ℕ → (ℕ → Content) → Volume → Type 0
HoldObjects inodes files v = (n : ℕ) → 3 ≤ n → StandsAs (files n).kind inodes (files n) (v n)
