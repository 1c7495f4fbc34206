-- The blocks that are read while a consistency point is under way: those of the disk that it
-- leaves.
use Rattle.std.specs.Prelude.{ℕ, ◌≡◌, ◌⊎◌, ◌+◌, ◌-◌, ◌≤◌, List, Option, Some, None, Result, OnOk, length, min, take}
use Rattle.std.specs.Ordering.{nat_cmp}
use Rattle.std.specs.BTreeMap.{ContainsKey}
use Rattle.station.specs.Images.{Sector}
use Rattle.station.specs.Moments.{Meaning}
use Rattle.layout.specs.Places.{blocks_of}
use Rattle.buffers.specs.Disks.{ReadsOn, ShowsDisk}
use Rattle.buffers.specs.declared.block_cache.BlockCache.{BlockCache}
use Rattle.conspoint.specs.Cuts.{HoldsBlocks}
use Rattle.conspoint.specs.Finished.{IsAbsent, disk_after}
use Rattle.conspoint.specs.Plans.{FitsDisk}
use Rattle.overlay.specs.declared.pending.PendingPoint.{PendingPoint}

-- the disk that is to come: that of a point under way once it is carried out, and else the one that
-- stands
abbrev pub planned_disk : Option PendingPoint → (ℕ → Sector) → ℕ → Sector
planned_disk None disk = disk
planned_disk (Some pending) disk = disk_after pending.plan disk

-- what is written of a point under way stands on the disk
abbrev pub HoldsSoFar : Option PendingPoint → (ℕ → Sector) → Type 0
HoldsSoFar None disk = Unit {0}
HoldsSoFar (Some pending) disk = HoldsBlocks (take pending.plan.written pending.plan.blocks) disk

-- on that of an honest station
abbrev pub HoldsHere : Meaning → Option PendingPoint → Type 0
HoldsHere m pending = m.is_honest → HoldsSoFar pending m.seen.disk

-- Blocks read as on this disk, the one that is to come. What is kept in memory of the disk below is
-- as that has it.
pub record ShowsOver (m : Meaning) (kept : BlockCache) (pending : Option PendingPoint) (disk : ℕ → List ℕ) : Type 0 where
  pub below : ShowsDisk m kept (blocks_of m.seen.disk)
  pub written : HoldsSoFar pending m.seen.disk
  pub is : disk ≡ blocks_of (planned_disk pending m.seen.disk)

-- nothing was done but reading: the same point is under way, or none
pub record ReadsOver (old new : Meaning) (before after : Option PendingPoint) : Type 0 where
  pub below : ReadsOn old new
  pub pending : after ≡ before

-- a point under way has a block for this place
abbrev pub IsPlannedAt : Option PendingPoint → ℕ → Type 0
IsPlannedAt None place = ⊥
IsPlannedAt (Some pending) place = IsAbsent pending.plan.blocks place → ⊥

-- the block at a place behind the slots of the roots is in memory: kept, or planned
abbrev pub IsHere : BlockCache → Option PendingPoint → ℕ → Type 0
IsHere kept pending place = (2 ≤ place) × (ContainsKey nat_cmp kept.held place ⊎ IsPlannedAt pending place)

-- the places of a point under way lie on a disk of so many sectors
abbrev pub FitsOver : ℕ → Option PendingPoint → Type 0
FitsOver sectors None = Unit {0}
FitsOver sectors (Some pending) = FitsDisk sectors pending.plan

-- how many blocks of a point under way aren't written yet
abbrev pub unwritten : Option PendingPoint → ℕ
unwritten None = 0
unwritten (Some pending) = length pending.plan.blocks - pending.plan.written

-- so many more blocks of a point under way are written, or all of them; it is the same point
abbrev pub SlicesOn : {T E : Type 0} → ℕ → Option PendingPoint → Option PendingPoint → Result T E → Type 0
SlicesOn count None new result = new ≡ None
SlicesOn count (Some old) None result = OnOk result ⊥
SlicesOn count (Some old) (Some new) result =
    (new.plan ≡ record old.plan { written = new.plan.written })
    × OnOk result (new.plan.written ≡ min (length old.plan.blocks) (old.plan.written + count))
