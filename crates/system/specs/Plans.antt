-- What is planned of a consistency point.
use Rattle.std.specs.Prelude.{ℕ, ◌≡◌, ◌+◌, ◌*◌, ◌≤◌, List}
use Rattle.layout.specs.Places.{blocks_of}
use Rattle.layout.specs.Root.{root_bytes}
use Rattle.layout.specs.StateLimits.{limits_of}
use Rattle.layout.specs.declared.root.Root.{Root}
use Rattle.model.specs.Records.{count_orphans}
use Rattle.model.specs.Volumes.{Volume}
use Rattle.images.specs.Cuts.{IsPointWith, LeavesFree, Write}
use Rattle.images.specs.Room.{free_under}
use Rattle.images.specs.Roots.{whole}
use Rattle.images.specs.SnapshotSteps.{SnapshotStep}
use Rattle.conspoint.specs.Plans.{Planned, FitsDisk}
use Rattle.conspoint.specs.Writes.{writes_of}
use Rattle.system.specs.Slots.{other_slot}

-- A new root that holds this volume leaves as many blocks free as the next point may store, on each
-- disk that has what is written.
pub record LeavesRoom (disk : ℕ → List ℕ) (root : Root) (running : Volume) (writes : List Write) (new : Root) : Type 0 where
  pub spent : ℕ
  pub leaves : LeavesFree spent root (blocks_of disk) writes new
  pub enough :
      (limits_of root.geometry).costs.orphan * count_orphans root.geometry.inodes running
      + (limits_of root.geometry).costs.point + spent
      ≤ free_under (whole (blocks_of disk) root).active root.geometry.blocks

-- A point is planned over a disk with this root in this slot, and none of it is written: its root
-- covers this epoch, comes into the other slot, and leads to the running volume; and this is done
-- with the snapshots. It leaves as many blocks free as the next one may store.
pub record IsPlannedOver (step : SnapshotStep) (disk : ℕ → List ℕ) (root : Root) (slot epoch : ℕ) (p : Planned) (new : Root) (running : Volume) : Type 0 where
  pub bytes : p.root ≡ root_bytes new
  pub other : p.slot ≡ other_slot slot
  pub covers : new.generation ≡ epoch
  pub fits : FitsDisk (8 * root.geometry.blocks) p
  pub point : IsPointWith step root disk (writes_of p.blocks) p.slot new running
  pub room : LeavesRoom disk root running (writes_of p.blocks) new
