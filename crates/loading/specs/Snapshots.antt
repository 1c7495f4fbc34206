-- The snapshots' root blocks, as mount tests them.
use Rattle.std.specs.Prelude.{ℕ, ◌≡◌, ◌≢◌, ◌<◌, ◌≤◌, List, slice_index_or}
use Rattle.layout.specs.Inode.{IsInode}
use Rattle.layout.specs.Limits.{Sizes}
use Rattle.layout.specs.Places.{Blocks}
use Rattle.layout.specs.SnapRoot.{Snapshot, IsSnapshot, snapshot_bytes}
use Rattle.layout.specs.declared.pointer.Pointer.{Pointer}
use Rattle.layout.specs.declared.pointer.Pointer.TheVariants.{Hole, Block}
use Rattle.layout.specs.declared.root.Root.{Root}
use Rattle.layout.specs.declared.trees.Layout.{Layout}

-- a block is a snapshot's root in an image of these sizes, of an order up to this one
pub record IsSnapshotBlock (sizes : Sizes) (most : ℕ) (bytes : List ℕ) : Type 0 where
  pub snapshot : Snapshot
  pub is : IsSnapshot snapshot
  pub spelled : bytes ≡ snapshot_bytes snapshot
  pub order : snapshot.order ≤ most
  pub inode_file : IsInode sizes snapshot.inode_file

-- so is the block at a pointer, unless it is a hole
abbrev pub IsSnapshotAt : Sizes → ℕ → Blocks → Pointer → Type 0
IsSnapshotAt sizes most disk Hole = Unit {0}
IsSnapshotAt sizes most disk (Block b) = IsSnapshotBlock sizes most (disk b)

-- these bytes are the root of this snapshot in an image of this layout
pub record IsRootOf (layout : Layout) (s : Snapshot) (bytes : List ℕ) : Type 0 where
  pub is : IsSnapshot s
  pub layout_is : s.inode_file.layout ≡ layout
  pub spelled : bytes ≡ snapshot_bytes s

-- these bytes are no roots of two snapshots that have one name or one order, in an image of this
-- layout
abbrev pub AreOfTwoSnapshots : Layout → List ℕ → List ℕ → Type 0
AreOfTwoSnapshots layout a b =
    (s q : Snapshot) → IsRootOf layout s a → IsRootOf layout q b
    → (s.name ≢ q.name) × (s.order ≢ q.order)

-- so are the blocks at two pointers, unless one is a hole
abbrev pub AreApartAt : Layout → Blocks → Pointer → Pointer → Type 0
AreApartAt layout disk Hole b = Unit {0}
AreApartAt layout disk (Block a) Hole = Unit {0}
AreApartAt layout disk (Block a) (Block b) = AreOfTwoSnapshots layout (disk a) (disk b)

-- a slot of a root is free or has a snapshot's root block, of no name and order of one in a slot
-- before it
abbrev pub FitsSlot : Blocks → Root → ℕ → Type 0
FitsSlot disk r k =
    IsSnapshotAt r.geometry r.generation disk (slice_index_or r.snapshots k Hole)
    × ((l : ℕ) → l < k
    → AreApartAt r.geometry.layout disk (slice_index_or r.snapshots l Hole)
    (slice_index_or r.snapshots k Hole))
