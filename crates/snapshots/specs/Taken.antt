-- What a new snapshot may be, and the refusals of `snap take`.
use Rattle.std.specs.Prelude.{ℕ, ◌≡◌, ◌≢◌, ◌⊎◌, ◌+◌, ◌<◌, ◌≤◌, length, Some, slice_index_or}
use Rattle.layout.specs.Places.{Blocks}
use Rattle.layout.specs.SnapRoot.{Snapshot}
use Rattle.layout.specs.declared.pointer.Pointer.TheVariants.{Hole}
use Rattle.layout.specs.declared.root.Root.{Root}
use Rattle.layout.specs.declared.version.TheConstants.{SNAPSHOT_SLOTS}
use Rattle.model.specs.Paths.{Name, first_refusal}
use Rattle.model.specs.States.{State}
use Rattle.model.specs.Steps.{take_tests}
use Rattle.model.specs.declared.errno.Errno.{Errno}
use Rattle.model.specs.declared.limits.TheConstants.{SNAPSHOT_NAME_BYTES}
use Rattle.images.specs.Roots.{slot, whole}
use Rattle.images.specs.Snapshots.{HasSnapshot}
use Rattle.images.specs.SnapshotSteps.{IsSlotNumber}
use Rattle.snapshots.specs.Found.{SpellsSnapshot}
use Rattle.snapshots.specs.declared.taking.Taking.{Taking}

-- of the tests of `snap take` this is the first refusal
abbrev pub RefusesTake : State → Name → Errno → Type 0
RefusesTake s name errno = first_refusal (take_tests s name) ≡ Some errno

-- Of a root's first n slots, this is the greatest order number of a snapshot, or 0 where there is
-- none.
pub record HasNewestOrder (disk : Blocks) (r : Root) (n last : ℕ) : Type 0 where
  pub most : (j : ℕ) (s : Snapshot) → j < n → SpellsSnapshot r.geometry.layout disk (slice_index_or r.snapshots j Hole) s
      → s.order ≤ last
  pub found : (last ≡ 0)
      ⊎ ((j : ℕ) × (s : Snapshot) × (j < n) × SpellsSnapshot r.geometry.layout disk (slice_index_or r.snapshots j Hole) s × (s.order ≡ last))

-- A snapshot of this name may be taken there: in the least slot that is free, with the next order
-- number. So its order number is above that of each snapshot, and within the limit.
pub record MayTake (disk : Blocks) (r : Root) (name : Name) (t : Taking) : Type 0 where
  pub slot_is : IsSlotNumber t.slot
  pub free : slot r t.slot ≡ Hole
  pub least : (k : ℕ) → 1 ≤ k → k < t.slot → slot r k ≢ Hole
  pub next : (last : ℕ) × HasNewestOrder disk r SNAPSHOT_SLOTS last × (t.order ≡ last + 1)
  pub some : 1 ≤ length name
  pub short : length name ≤ SNAPSHOT_NAME_BYTES
  pub names : (k : ℕ) (s : Snapshot) → HasSnapshot r (whole disk r) k s → s.name ≢ name
  pub orders : (k : ℕ) (s : Snapshot) → HasSnapshot r (whole disk r) k s → s.order < t.order
  pub first : 1 ≤ t.order
  pub order : t.order ≤ r.generation + 1
