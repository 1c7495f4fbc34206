-- Which state a disk and an NVRAM open to.
use Rattle.layout.specs.Trees.{has_attributes}
use Rattle.std.specs.Prelude.{ℕ, ◌≡◌, ◌≢◌, ◌+◌, ◌*◌, ◌/◌, ◌≤◌, List, map, All, None}
use Rattle.layout.specs.StateLimits.{fixed_of, limits_of}
use Rattle.model.specs.declared.limits.Limits.{Limits}
use Rattle.layout.specs.Log.{LogHolds}
use Rattle.layout.specs.Opens.{IsNewest}
use Rattle.layout.specs.Places.{blocks_of}
use Rattle.layout.specs.Record.{Change, IsChange, change_bytes}
use Rattle.layout.specs.declared.TheConstants.{SLOT_A, SLOT_B}
use Rattle.layout.specs.declared.pointer.Pointer.TheVariants.{Block}
use Rattle.layout.specs.declared.root.Root.{Root}
use Rattle.model.specs.Paths.{Name}
use Rattle.model.specs.Records.{Replays, pledged_for, without_orphans}
use Rattle.model.specs.Sessions.{new_session}
use Rattle.model.specs.States.{State, Forgets, going}
use Rattle.model.specs.Trees.{Tree}
use Rattle.model.specs.Volumes.{Volume, IsVolume, tree_of}
use Rattle.images.specs.Roots.{Whole, whole, slot}
use Rattle.images.specs.BlockMap.{IsExact, entry}
use Rattle.images.specs.Contents.{HoldsVolume, tree_contents}
use Rattle.images.specs.Room.{KeepsOwn, free_under}
use Rattle.images.specs.Snapshots.{AreSnapshots, AreKept}
use Rattle.images.specs.Soundness.{IsSoundTree, IsWithin}

-- all that a root holds is in its grammar, and no snapshot shares what every point stores
pub record IsSound (r : Root) (w : Whole) : Type 0 where
  pub active : IsSoundTree r.geometry w.active
  pub frozen : (k block : ℕ) → slot r k ≡ Block block → IsSoundTree r.geometry (w.frozen k)
  pub within : IsWithin r.version w.active
  pub frozen_within : (k block : ℕ) → slot r k ≡ Block block → IsWithin r.version (w.frozen k)
  pub snapshots : AreSnapshots r w
  pub exact : IsExact r w
  pub own : KeepsOwn r w

-- What a root holds, all of it in its grammar: the objects of its active tree, its orphans among
-- them, and the names and trees of its snapshots, oldest first.
pub record Holds (r : Root) (w : Whole) (v : Volume) (snapshots : List (Name × Tree)) : Type 0 where
  pub sound : IsSound r w
  pub holds : HoldsVolume r.geometry.inodes (tree_contents w.active) v
  pub volume : IsVolume (limits_of r.geometry) v
  pub kept : AreKept r w snapshots

-- The log holds these records, which a root doesn't cover: those of the next epoch, and then those
-- of the one after it.
pub record LogHoldsChanges (r : Root) (nvram : List ℕ) (changes : List Change) : Type 0 where
  pub are : All (IsChange (has_attributes r.geometry.layout)) changes
  pub log : LogHolds r.geometry.half r.generation nvram (map change_bytes changes)

-- as many blocks are free under a root as may be stored for these records over its volume, and what
-- every point stores
abbrev pub HasReserve : Root → Whole → Volume → List Change → Type 0
HasReserve r w first changes =
    pledged_for (limits_of r.geometry) first changes + fixed_of r.geometry.blocks
    ≤ free_under w.active r.geometry.blocks

-- the state of these objects, orphans aside, and of these snapshots
abbrev pub state_of : Limits → Volume → List (Name × Tree) → State
state_of limits v snapshots = record {
  limits = limits;
  tree = tree_of (without_orphans v) (λ d. None);
  snapshots = snapshots;
  mark = going;
  session = new_session;
}

-- The disk and the NVRAM stand for this state with its open files forgotten: the objects that the
-- newest root holds, changed by the records that it doesn't cover, without the files that have no
-- name then.
pub record Opens (sectors : ℕ) (disk : ℕ → List ℕ) (nvram : List ℕ) (s : State) : Type 0 where
  pub root : Root
  pub newest : IsNewest root (disk SLOT_A) (disk SLOT_B)
  pub size : sectors ≡ 8 * root.geometry.blocks
  pub first : Volume
  pub snapshots : List (Name × Tree)
  pub holds : Holds root (whole (blocks_of disk) root) first snapshots
  pub changes : List Change
  pub log : LogHoldsChanges root nvram changes
  pub room : HasReserve root (whole (blocks_of disk) root) first changes
  pub last : Volume
  pub replays : Replays (limits_of root.geometry) first changes last
  pub state : Forgets s (state_of (limits_of root.geometry) last snapshots)

-- The disk and the NVRAM stand for this state by just these records.
pub record OpensBy (sectors : ℕ) (disk : ℕ → List ℕ) (nvram : List ℕ) (s : State)
    (changes : List Change) : Type 0 where
  pub opens : Opens sectors disk nvram s
  pub these : opens.changes ≡ changes

-- two disks have the same in all sectors of blocks that aren't free in the map that the first one
-- has under a root
abbrev pub SameButFree : Root → (ℕ → List ℕ) → (ℕ → List ℕ) → Type 0
SameButFree r d e = (n : ℕ) → entry (whole (blocks_of d) r).active (n / 8) ≢ 0 → e n ≡ d n
