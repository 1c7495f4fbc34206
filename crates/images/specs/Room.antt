-- Which blocks a consistency point takes, and how many it leaves free.
use Rattle.std.specs.Prelude.{ℕ, ◌≡◌, ◌≢◌, ◌==◌, ◌<◌, Bool, true, if◌then◌else◌}
use Rattle.layout.specs.declared.pointer.Pointer.TheVariants.{Block}
use Rattle.layout.specs.declared.root.Root.{Root}
use Rattle.images.specs.Nodes.{Names}
use Rattle.images.specs.Roots.{HeldTree, Reach, Whole, slot}
use Rattle.images.specs.BlockMap.{entry}
use Rattle.images.specs.Sums.{sum_below}

-- 1 for a block that is free in the map of a tree: its entry is 0
abbrev pub free_at : HeldTree → ℕ → ℕ
free_at t b = if entry t b == 0 then 1 else 0

-- how many of the first so many blocks are free in the map of a tree
abbrev pub free_under : HeldTree → ℕ → ℕ
free_under t n = sum_below (free_at t) n

-- The blocks that every point stores anew: those of the block map's file, and the nodes over block
-- 0 of the inode file, which has the map's inode.
pub data IsOwn (t : HeldTree) (b : ℕ) : Type 0 where
  map : (names : Names (t 2) b) → IsOwn t b
  first : (height : ℕ) → (is : (t 0).place height 0 ≡ Block b) → IsOwn t b

-- No snapshot shares them: so a point that stores them anew gives as many back.
pub record KeepsOwn (r : Root) (w : Whole) : Type 0 where
  pub frozen : (k b : ℕ) → IsOwn w.active b → Reach (w.frozen k) b → ⊥
  pub head : (k b : ℕ) → IsOwn w.active b → slot r k ≡ Block b → ⊥

-- a new root has a snapshot root block in a slot that the old one doesn't have there
abbrev pub IsNewHead : Root → Root → ℕ → ℕ → Type 0
IsNewHead r new k b = (slot new k ≡ Block b) × (slot r k ≢ Block b)

-- block 0 of the inode file stands in a taken block
abbrev pub TakesFirst : HeldTree → (ℕ → ℕ → Bool) → Type 0
TakesFirst now taken = (b : ℕ) → (now 0).place 0 0 ≡ Block b → taken 0 b ≡ true

-- A snapshot has the tree that a point starts from, which has this plane of the block map: one is
-- taken of it, or it is that of one that is restored.
pub data SharesBase (r new : Root) (plane : ℕ) : Type 0 where
  takes : (k block : ℕ) → (new_head : IsNewHead r new k block) → SharesBase r new plane
  restores : (frozen : plane ≢ 0) → SharesBase r new plane

-- A new snapshot's root block is taken for no file, and where a snapshot has the tree that the
-- point starts from, the block map's whole file stands in taken blocks, and so does block 0 of the
-- inode file.
pub record StoresOwn (plane : ℕ) (now : HeldTree) (r new : Root) (taken : ℕ → ℕ → Bool) : Type 0 where
  pub heads : (n k b : ℕ) → IsNewHead r new k b → taken n b ≡ true → ⊥
  pub map : (b : ℕ) → SharesBase r new plane → Names (now 2) b → taken 2 b ≡ true
  pub first : SharesBase r new plane → TakesFirst now taken

-- the blocks that are taken for these files come before one, and so do new snapshots' root blocks
pub record TakesBelow (mid : ℕ) (IsOne : ℕ → Type 0) (r new : Root) (taken : ℕ → ℕ → Bool) : Type 0 where
  pub files : (n b : ℕ) → IsOne n → taken n b ≡ true → b < mid
  pub heads : (k b : ℕ) → IsNewHead r new k b → b < mid
