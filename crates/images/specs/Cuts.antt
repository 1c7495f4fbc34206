-- What the writes of a consistency point leave on the disk, before its root and with it.
use Rattle.std.specs.Prelude.{ℕ, ◌≡◌, ◌≢◌, ◌⊎◌, ◌+◌, ◌/◌, ◌<◌, ◌≤◌, List, [], length, All}
use Rattle.layout.specs.StateLimits.{limits_of}
use Rattle.layout.specs.Opens.{HoldsRoot}
use Rattle.layout.specs.Places.{Blocks, blocks_of}
use Rattle.layout.specs.Root.{IsRoot}
use Rattle.layout.specs.declared.TheConstants.{BLOCK_BYTES, SLOT_A, SLOT_B}
use Rattle.layout.specs.declared.root.Root.{Root}
use Rattle.layout.specs.declared.version.TheConstants.{VERSION}
use Rattle.model.specs.Volumes.{Volume, IsVolume}
use Rattle.images.specs.Nodes.{Agrees, held}
use Rattle.images.specs.Roots.{whole, Needs}
use Rattle.images.specs.BlockMap.{entry}
use Rattle.images.specs.Contents.{Content}
use Rattle.images.specs.Points.{IsPlannedOn, IsSoundPlan, HoldObjects}
use Rattle.images.specs.Room.{StoresOwn, free_under}
use Rattle.images.specs.SnapshotSteps.{SnapshotStep, CanStep, StepsSlots, HasHead, base_plane, base_tree}

-- a block of a disk of so many, behind the two that hold the roots
abbrev pub IsOfDisk : ℕ → ℕ → Type 0
IsOfDisk blocks b = (2 ≤ b) × (b < blocks)

-- a block that is to be written
pub record Write : Type 0 where
  pub place : ℕ
  pub bytes : List ℕ

-- a sector of none of these blocks
abbrev pub IsOutsideWrites : List Write → ℕ → Type 0
IsOutsideWrites writes n = All (λ w. w.place ≢ n / 8) writes

-- only sectors of these blocks differ from one disk to the other, whether they are written yet or
-- not
abbrev pub StaysOutsideWrites : List Write → (ℕ → List ℕ) → (ℕ → List ℕ) → Type 0
StaysOutsideWrites writes d e = (n : ℕ) → IsOutsideWrites writes n → e n ≡ d n

-- these blocks are free in the map that the disk has under a root
abbrev pub AreFree : Root → (ℕ → List ℕ) → List Write → Type 0
AreFree r d writes = All (λ w. entry (whole (blocks_of d) r).active w.place ≡ 0) writes

-- the sectors of the disk have a block
abbrev pub HoldsWrite : (ℕ → List ℕ) → Write → Type 0
HoldsWrite disk w = blocks_of disk w.place ≡ w.bytes

-- the blocks may be written or not, and this sector can't be read; the others are as before
pub record LosesSlot (writes : List Write) (sector : ℕ) (d e : ℕ → List ℕ) : Type 0 where
  pub others : (n : ℕ) → IsOutsideWrites writes n → n ≢ sector → e n ≡ d n
  pub lost : e sector ≡ []

-- all blocks are written, and this sector has a new root; the other sectors are as before
pub record HasRootWritten (writes : List Write) (sector : ℕ) (root : List ℕ) (d e : ℕ → List ℕ) : Type 0 where
  pub others : (n : ℕ) → IsOutsideWrites writes n → n ≢ sector → e n ≡ d n
  pub holds : All (HoldsWrite e) writes
  pub root_is : e sector ≡ root

-- the sector is that of the slot that doesn't hold the root
abbrev pub IsOtherSlot : Root → (ℕ → List ℕ) → ℕ → Type 0
IsOtherSlot r d sector =
    ((sector ≡ SLOT_B) × HoldsRoot (d SLOT_A) r) ⊎ ((sector ≡ SLOT_A) × HoldsRoot (d SLOT_B) r)

-- what is planned, on one disk that has the planned blocks, from the tree that the step starts from
pub record PlansOn (step : SnapshotStep) (d : Blocks) (r : Root) (e : Blocks) (new : Root) (files : ℕ → Content) : Type 0 where
  pub plan : IsPlannedOn (whole d r) (base_tree step (whole d r)) (base_plane step) r e new files
  pub sound : IsSoundPlan r.geometry e plan.inode plan.changed
  pub own : StoresOwn (base_plane step) (λ n. held e (plan.inode n)) r new plan.taken

-- and on each that has them
abbrev pub Plans : SnapshotStep → Blocks → Root → List Write → Root → (ℕ → Content) → Type 0
Plans step d r writes new files =
    (e : Blocks) → All (λ w. e w.place ≡ w.bytes) writes → Agrees (Needs r (whole d r)) d e
    → PlansOn step d r e new files

-- on each disk that has the planned blocks, the new root leaves no fewer free than the old one, but
-- for so many
abbrev pub LeavesFree : ℕ → Root → Blocks → List Write → Root → Type 0
LeavesFree spent r d writes new =
    (e : Blocks) → All (λ w. e w.place ≡ w.bytes) writes → Agrees (Needs r (whole d r)) d e
    → free_under (whole d r).active r.geometry.blocks
    ≤ free_under (whole e new).active r.geometry.blocks + spent

-- A consistency point over a disk with a root is planned, that leads to this volume: the blocks
-- that it writes, and the new root with its sector. So is what it does with the snapshots.
pub record IsPointWith (step : SnapshotStep) (r : Root) (d : ℕ → List ℕ) (writes : List Write) (sector : ℕ) (new : Root) (v : Volume) : Type 0 where
  pub free : AreFree r d writes
  pub long : All (λ w. length w.bytes ≡ BLOCK_BYTES) writes
  pub slot : IsOtherSlot r d sector
  pub root : IsRoot new
  pub later : r.generation < new.generation
  pub geometry : new.geometry ≡ r.geometry
  pub version : new.version ≡ VERSION
  pub possible : CanStep step r (whole (blocks_of d) r)
  pub snapshots : StepsSlots step r new
  pub head : (e : Blocks) → All (λ w. e w.place ≡ w.bytes) writes → HasHead step new e
  pub files : ℕ → Content
  pub plans : Plans step (blocks_of d) r writes new files
  pub objects : HoldObjects r.geometry.inodes files v
  pub volume : IsVolume (limits_of r.geometry) v
