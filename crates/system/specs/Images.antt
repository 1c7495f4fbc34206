-- What the images of a mounted system hold.
use Rattle.std.specs.Prelude.{ℕ, ◌≡◌, List, map, All}
use Rattle.model.specs.declared.limits.Limits.{Limits}
use Rattle.layout.specs.StateLimits.{limits_of}
use Rattle.station.specs.Images.{Images}
use Rattle.station.specs.Moments.{Meaning}
use Rattle.layout.specs.Opens.{IsNewest}
use Rattle.layout.specs.Places.{blocks_of}
use Rattle.layout.specs.Record.{Change, IsChange, change_bytes}
use Rattle.layout.specs.declared.TheConstants.{SLOT_A, SLOT_B}
use Rattle.layout.specs.declared.root.Root.{Root}
use Rattle.model.specs.Paths.{Name}
use Rattle.model.specs.Records.{Replays, Extends, pledged_for}
use Rattle.model.specs.States.{State}
use Rattle.model.specs.Trees.{Tree}
use Rattle.model.specs.Volumes.{Volume}
use Rattle.images.specs.Roots.{whole}
use Rattle.images.specs.States as images
use Rattle.images.specs.States.{HasReserve, Holds, SameButFree}
use Rattle.oplog.specs.LogEnd.{LogEnd, Bodies, all_bodies, StandsAt}
use Rattle.system.specs.Slots.{IsNewestAt}

-- Images of a station of this meaning open to a state.
pub record OpensTo (m : Meaning) (s : State) (c : Images) : Type 0 where
  pub opens : images.Opens m.sectors c.disk c.nvram s

-- A disk has a root in a slot, and no newer one; it holds this volume and these snapshots, all of
-- it in its grammar.
pub record IsUnder (slot : ℕ) (root : Root) (first : Volume) (snapshots : List (Name × Tree))
    (disk : ℕ → List ℕ) : Type 0 where
  pub newest : IsNewestAt slot root disk
  pub holds : Holds root (whole (blocks_of disk) root) first snapshots

-- What a cut leaves of a system over this disk: the same but for free blocks, and a log of these
-- records that ends where the system's does.
pub record IsLeft (root : Root) (log : LogEnd) (bodies : Bodies) (disk : ℕ → List ℕ)
    (c : Images) : Type 0 where
  pub same : SameButFree root disk c.disk
  pub log_stands : StandsAt log root.generation bodies c.nvram

-- The records with these bodies lead from the volume that a root holds to the running one; but
-- orphans, which the running one may have dropped, are there still.
pub record IsReplayed (limits : Limits) (bodies : Bodies) (first running : Volume) : Type 0 where
  pub changes : List Change
  pub are : All (IsChange limits.has_attributes) changes
  pub spelled : all_bodies bodies ≡ map change_bytes changes
  pub last : Volume
  pub replays : Replays limits first changes last
  pub extends : Extends running last

-- What the records of a log are replayed over: a disk, its newest root, and the volume that this
-- one holds.
pub record Base : Type 0 where
  pub disk : ℕ → List ℕ
  pub root : Root
  pub volume : Volume

-- What of a system outlasts a cut: a disk holds a volume and snapshots under its newest root, and
-- records lead from there to the running volume. What these may cost a consistency point is
-- pledged, and as many blocks are free, with those that every point stores.
pub record Lasts (settled : Base) (snapshots : List (Name × Tree)) (pledged : ℕ)
    (running : Volume) : Type 0 where
  pub newest : IsNewest settled.root (settled.disk SLOT_A) (settled.disk SLOT_B)
  pub holds : Holds settled.root (whole (blocks_of settled.disk) settled.root) settled.volume snapshots
  pub bodies : Bodies
  pub replayed : IsReplayed (limits_of settled.root.geometry) bodies settled.volume running
  pub pledges :
      pledged ≡ pledged_for (limits_of settled.root.geometry) settled.volume replayed.changes
  pub reserved :
      HasReserve settled.root (whole (blocks_of settled.disk) settled.root) settled.volume
      replayed.changes
