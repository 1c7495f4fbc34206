-- What a consistency point does with the snapshots, and what that makes of the slots and of the
-- block map's sets.
use Rattle.std.specs.Prelude.{ℕ, ◌≡◌, ◌≢◌, ◌<◌, ◌≤◌, List, length}
use Rattle.std.specs.Int.{bit_at}
use Rattle.blockmap.specs.Maps.{entry_at, settled_at}
use Rattle.blockmap.specs.declared.map.TheConstants.{SYSTEM_PLANE}
use Rattle.conspoint.specs.Drafts.{OnEach}
use Rattle.conspoint.specs.MapFiles.{AreTouched}
use Rattle.conspoint.specs.declared.draft.Draft.{Draft}
use Rattle.images.specs.Room.{IsNewHead}
use Rattle.images.specs.Roots.{HeldTree, Whole, slot}
use Rattle.images.specs.SnapshotSteps.{SnapshotStep, unchanged, taken, deleted, restored, HasHead, IsSlotNumber, StepsSlots}
use Rattle.images.specs.Snapshots.{HasSnapshot}
use Rattle.layout.specs.Pointer.{PointsBelow}
use Rattle.layout.specs.Root.{IsRoot}
use Rattle.layout.specs.SnapRoot.{Snapshot, snapshot_bytes}
use Rattle.layout.specs.declared.inode.Inode.{Inode}
use Rattle.layout.specs.declared.pointer.Pointer.{Pointer}
use Rattle.layout.specs.declared.pointer.Pointer.TheVariants.{Block}
use Rattle.layout.specs.declared.root.Root.{Root}
use Rattle.model.specs.Paths.{Name}
use Rattle.model.specs.declared.limits.TheConstants.{SNAPSHOT_NAME_BYTES}
use Rattle.planning.specs.Progress.{KeepsActive, KeepsSets}
use Rattle.planning.specs.declared.change.SnapshotChange.{SnapshotChange}
use Rattle.planning.specs.declared.change.SnapshotChange.TheVariants.{Unchanged, Take, Delete, Restore}

-- the slot is one of a root's, and the name of a new snapshot has room in its root block
abbrev pub FitsSlots : SnapshotChange → Type 0
FitsSlots Unchanged = Unit {0}
FitsSlots (Take k order name) = IsSlotNumber k × (length name.now ≤ SNAPSHOT_NAME_BYTES)
FitsSlots (Delete k) = IsSlotNumber k
FitsSlots (Restore k f) = IsSlotNumber k

-- what is asked for over a root is this step: a snapshot that is taken has the root's inode file
abbrev pub IsStepOf : SnapshotChange → Root → SnapshotStep → Type 0
IsStepOf Unchanged r step = step ≡ unchanged
IsStepOf (Take k order name) r step =
    step ≡ taken k (record { order = order; name = name.now; inode_file = r.inode_file })
IsStepOf (Delete k) r step = (name : Name) × (step ≡ deleted k name)
IsStepOf (Restore k f) r step = (name : Name) × (step ≡ restored k name)

-- the tree that the point starts from, of all that a root holds: the active one, or that of the
-- snapshot to be restored
abbrev pub starting_tree : SnapshotChange → Whole → HeldTree
starting_tree Unchanged w = w.active
starting_tree (Take k order name) w = w.active
starting_tree (Delete k) w = w.active
starting_tree (Restore k f) w = w.frozen k

-- its set of the settled map
abbrev pub starting_plane : SnapshotChange → ℕ
starting_plane Unchanged = 0
starting_plane (Take k order name) = 0
starting_plane (Delete k) = 0
starting_plane (Restore k f) = k

-- the inode of its inode file
abbrev pub starting_file : SnapshotChange → Root → Inode
starting_file Unchanged r = r.inode_file
starting_file (Take k order name) r = r.inode_file
starting_file (Delete k) r = r.inode_file
starting_file (Restore k f) r = f

-- the snapshot to be restored stands in its slot, with this inode file
abbrev pub HasRestored : SnapshotChange → Root → Whole → Type 0
HasRestored Unchanged r w = Unit {0}
HasRestored (Take k order name) r w = Unit {0}
HasRestored (Delete k) r w = Unit {0}
HasRestored (Restore k f) r w = (s : Snapshot) × HasSnapshot r w k s × (s.inode_file ≡ f)

-- set 0 of the map is as it was, or it is the settled set of the snapshot to be restored now
abbrev pub StartsActive : SnapshotChange → (ℕ → ℕ) → (ℕ → ℕ) → (ℕ → ℕ) → Type 0
StartsActive Unchanged settled before after = KeepsActive before after
StartsActive (Take k order name) settled before after = KeepsActive before after
StartsActive (Delete k) settled before after = KeepsActive before after
StartsActive (Restore k f) settled before after = (b : ℕ) → bit_at (after b) 0 ≡ bit_at (settled b) k

-- where a snapshot is restored, each block of the map is to be stored
abbrev pub TouchesRestored : SnapshotChange → Draft → Type 0
TouchesRestored Unchanged d = Unit {0}
TouchesRestored (Take k order name) d = Unit {0}
TouchesRestored (Delete k) d = Unit {0}
TouchesRestored (Restore k f) d = AreTouched d.map.parts.items

-- Set k is these bits now. In the system's set the block at this pointer has this bit, and no other
-- set changes.
pub record ChangesPlane (k : ℕ) (p : Pointer) (bit : ℕ) (plane before after : ℕ → ℕ) : Type 0 where
  pub plane_is : (b : ℕ) → bit_at (after b) k ≡ plane b
  pub head : (b : ℕ) → p ≡ Block b → bit_at (after b) SYSTEM_PLANE ≡ bit
  pub system : (b : ℕ) → p ≢ Block b → bit_at (after b) SYSTEM_PLANE ≡ bit_at (before b) SYSTEM_PLANE
  pub others : (b i : ℕ) → i ≢ k → i ≢ SYSTEM_PLANE → bit_at (after b) i ≡ bit_at (before b) i

-- A snapshot of a root's tree is taken: its root block, which was free, is planned at this pointer,
-- and its plane of the map is the settled active tree.
pub record TakesTree (k order : ℕ) (name : List ℕ) (r : Root) (old new : Draft) (p : Pointer) : Type 0 where
  pub block : (b : ℕ) × (p ≡ Block b)
  pub head : (b : ℕ) → p ≡ Block b → OnEach new
      (λ e. e b ≡ snapshot_bytes (record { order = order; name = name; inode_file = r.inode_file }))
  pub points : PointsBelow old.map.count p
  pub given : (b : ℕ) → p ≡ Block b → b < new.map.next
  pub free : (b : ℕ) → p ≡ Block b → settled_at old.map.parts.items b ≡ 0
  pub sets : ChangesPlane k p 1 (λ b. bit_at (settled_at old.map.parts.items b) 0)
      (entry_at old.map.parts.items) (entry_at new.map.parts.items)

-- The map's entries after a step over those before it, where these are settled. The plane of a
-- snapshot that is taken is the settled active tree, and its root block was free. Of one that is
-- restored only the active tree's set changes.
abbrev pub StepsSets : SnapshotStep → Root → Root → (ℕ → ℕ) → (ℕ → ℕ) → (ℕ → ℕ) → Type 0
StepsSets unchanged r new settled before after = (b : ℕ) → after b ≡ before b
StepsSets (taken k s) r new settled before after =
    ChangesPlane k (slot new k) 1 (λ b. bit_at (settled b) 0) before after
    × ((b : ℕ) → slot new k ≡ Block b → settled b ≡ 0)
StepsSets (deleted k name) r new settled before after =
    ChangesPlane k (slot r k) 0 (λ b. 0) before after
StepsSets (restored k name) r new settled before after = KeepsSets before after

-- the entries in the end, where all else that is planned keeps the sets but the active tree's
pub record StepsEntries (step : SnapshotStep) (r new : Root) (settled before after : ℕ → ℕ) : Type 0 where
  pub between : ℕ → ℕ
  pub sets : StepsSets step r new settled before between
  pub keeps : KeepsSets between after

-- A root over another has the slots of this step, and the root block of a snapshot that is taken is
-- planned.
pub record MakesStep (step : SnapshotStep) (r new : Root) (d : Draft) : Type 0 where
  pub slots : StepsSlots step r new
  pub head : OnEach d (HasHead step new)

-- the root block of a new snapshot was given out, and each block of the map is to be stored then
abbrev pub HasHeads : Root → Root → Draft → Type 0
HasHeads r new d = (k b : ℕ) → IsNewHead r new k b → (b < d.map.next) × AreTouched d.map.parts.items

-- What is done with the snapshots of a root before anything else is planned, and the root with the
-- slots that come of it.
pub record ChangesSnapshots (change : SnapshotChange) (r : Root) (old new : Draft) (next : Root) : Type 0 where
  pub root : IsRoot next
  pub geometry : next.geometry ≡ r.geometry
  pub steps : (step : SnapshotStep) → IsStepOf change r step → MakesStep step r next new
  pub heads : HasHeads r next new
  pub sets : (step : SnapshotStep) → IsStepOf change r step → StepsSets step r next (settled_at old.map.parts.items)
      (entry_at old.map.parts.items) (entry_at new.map.parts.items)

-- no snapshot of the tree that the point starts from stays beside the new tree: none is taken, and
-- none restored
abbrev pub SharesNone : SnapshotStep → Type 0
SharesNone unchanged = Unit {0}
SharesNone (taken k s) = ⊥
SharesNone (deleted k name) = Unit {0}
SharesNone (restored k name) = ⊥

-- how many blocks a change stores by itself
abbrev pub head_nodes : SnapshotChange → ℕ
head_nodes Unchanged = 0
head_nodes (Take k order name) = 1
head_nodes (Delete k) = 0
head_nodes (Restore k f) = 0
