-- What a consistency point does with the snapshots of a root.
use Rattle.std.specs.Prelude.{ℕ, ◌≡◌, ◌≢◌, ◌<◌, ◌≤◌, ◌+◌, not, List, [], ◌∷◌, ◌++◌, filter, bytes_eq, None}
use Rattle.layout.specs.Places.{Blocks, pointed}
use Rattle.layout.specs.SnapRoot.{Snapshot, IsSnapshot, snapshot_bytes}
use Rattle.layout.specs.declared.pointer.Pointer.{Pointer}
use Rattle.layout.specs.declared.pointer.Pointer.TheVariants.{Hole, Block}
use Rattle.layout.specs.declared.root.Root.{Root}
use Rattle.layout.specs.declared.version.TheConstants.{SNAPSHOT_SLOTS}
use Rattle.model.specs.Paths.{Name}
use Rattle.model.specs.Records.{without_orphans}
use Rattle.model.specs.Trees.{Tree}
use Rattle.model.specs.Volumes.{Volume, tree_of}
use Rattle.images.specs.Roots.{HeldTree, Whole, slot}
use Rattle.images.specs.Snapshots.{HasSnapshot}

-- the snapshots are left alone, or this one is taken into a slot, or the one in a slot, of this
-- name, is deleted or restored
pub data SnapshotStep : Type 0 where
  unchanged : SnapshotStep
  taken : (k : ℕ) → Snapshot → SnapshotStep
  deleted : (k : ℕ) → Name → SnapshotStep
  restored : (k : ℕ) → Name → SnapshotStep

-- the tree that the point starts from, and its plane of the block map: the active one, or that of a
-- snapshot to be restored
abbrev pub base_tree : SnapshotStep → Whole → HeldTree
base_tree (restored k name) w = w.frozen k
base_tree _ w = w.active

abbrev pub base_plane : SnapshotStep → ℕ
base_plane (restored k name) = k
base_plane _ = 0

-- the number is one of a root's slots
pub record IsSlotNumber (k : ℕ) : Type 0 where
  pub first : 1 ≤ k
  pub last : k ≤ SNAPSHOT_SLOTS

-- A snapshot of what a root holds may be taken into a slot: this is free, no other snapshot has the
-- name, and all have lower order numbers.
pub record CanTake (r : Root) (w : Whole) (k : ℕ) (s : Snapshot) : Type 0 where
  pub number : IsSlotNumber k
  pub free : slot r k ≡ Hole
  pub is : IsSnapshot s
  pub tree : s.inode_file ≡ r.inode_file
  pub name : (l : ℕ) (q : Snapshot) → HasSnapshot r w l q → q.name ≢ s.name
  pub newest : (l : ℕ) (q : Snapshot) → HasSnapshot r w l q → q.order < s.order
  pub order : s.order ≤ r.generation + 1

-- a slot has a snapshot of this name
pub record HasNamed (r : Root) (w : Whole) (k : ℕ) (name : Name) : Type 0 where
  pub number : IsSlotNumber k
  pub snapshot : Snapshot
  pub has : HasSnapshot r w k snapshot
  pub named : snapshot.name ≡ name

-- a step may be made over a root
abbrev pub CanStep : SnapshotStep → Root → Whole → Type 0
CanStep unchanged r w = Unit {0}
CanStep (taken k s) r w = CanTake r w k s
CanStep (deleted k name) r w = HasNamed r w k name
CanStep (restored k name) r w = HasNamed r w k name

-- of a root's slots one gets this pointer, and the others stay
pub record SetsSlot (r new : Root) (k : ℕ) (p : Pointer) : Type 0 where
  pub there : slot new k ≡ p
  pub others : (l : ℕ) → l ≢ k → slot new l ≡ slot r l

-- the slots of the new root after a step
abbrev pub StepsSlots : SnapshotStep → Root → Root → Type 0
StepsSlots unchanged r new = new.snapshots ≡ r.snapshots
StepsSlots (taken k s) r new = (block : ℕ) × SetsSlot r new k (Block block)
StepsSlots (deleted k name) r new = SetsSlot r new k Hole
StepsSlots (restored k name) r new = new.snapshots ≡ r.snapshots

-- on a disk e that has the planned blocks, a snapshot that is taken has its root block
abbrev pub HasHead : SnapshotStep → Root → Blocks → Type 0
HasHead unchanged new e = Unit {0}
HasHead (taken k s) new e = pointed e (slot new k) ≡ snapshot_bytes s
HasHead (deleted k name) new e = Unit {0}
HasHead (restored k name) new e = Unit {0}

-- The names and trees of the snapshots after a step, oldest first, where these were there before,
-- and the root held this volume: the tree of a snapshot that is taken is the volume's, without the
-- files that have no name.
abbrev pub kept_after : SnapshotStep → Volume → List (Name × Tree) → List (Name × Tree)
kept_after unchanged first pairs = pairs
kept_after (taken k s) first pairs = pairs ++ (s.name, tree_of (without_orphans first) (λ d. None)) ∷ []
kept_after (deleted k name) first pairs = filter (λ pair. not (bytes_eq pair.0 name)) pairs
kept_after (restored k name) first pairs = pairs
