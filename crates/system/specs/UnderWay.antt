-- A consistency point that is under way.
use Rattle.std.specs.Prelude.{ℕ, ◌≡◌, ◌+◌, ◌<◌, ◌≤◌, ◌^◌, List, []}
use Rattle.layout.specs.StateLimits.{limits_of}
use Rattle.station.specs.Images.{Images}
use Rattle.station.specs.Moments.{Meaning, IsSector}
use Rattle.layout.specs.declared.root.Root.{Root}
use Rattle.model.specs.Paths.{Name}
use Rattle.model.specs.Records.{pledged_for}
use Rattle.model.specs.Trees.{Tree}
use Rattle.model.specs.Volumes.{Volume}
use Rattle.images.specs.SnapshotSteps.{unchanged}
use Rattle.oplog.specs.LogEnd.{LogEnd, Bodies, StandsAt, all_bodies}
use Rattle.conspoint.specs.Cuts.{HasNewRoot, StaysOutside}
use Rattle.conspoint.specs.Finished.{disk_after}
use Rattle.conspoint.specs.Plans.{Planned, FitsDisk, IsPlanned}
use Rattle.system.specs.Images.{Base, IsReplayed, Lasts}
use Rattle.system.specs.Plans.{IsPlannedOver}

-- a point: its plan, its root with the volume that this leads to, and what stays pledged behind it
pub record Way : Type 0 where
  pub plan : Planned
  pub root : Root
  pub volume : Volume
  pub pledged : ℕ

-- so many of its blocks are written
abbrev pub way_at : ℕ → Way → Way
way_at n w = record w { plan = record w.plan { written = n } }

-- what records are replayed over once it is finished
abbrev pub base_to_come : Way → Base → Base
base_to_come w settled = record { disk = disk_after w.plan settled.disk; root = w.root; volume = w.volume }

-- the records of the newest epoch alone
abbrev pub newest_of : Bodies → Bodies
newest_of bodies = record bodies { older = [] }

-- the same records, with none of a newer epoch
abbrev pub all_older : Bodies → Bodies
all_older bodies = record { older = all_bodies bodies; newest = [] }

-- A point is planned over the disk that is settled, and only sectors of its blocks differ from
-- that; the records since go to the second epoch behind the settled root. They lead on from the
-- volume of the root to come, and what they may cost the next point was pledged, with what this
-- point takes: so that root leaves as many blocks free.
pub record IsUnderWay (m : Meaning) (log : LogEnd) {settled : Base} {snapshots : List (Name × Tree)} {pledged : ℕ}
    {running : Volume} (lasts : Lasts settled snapshots pledged running) (w : Way) : Type 0 where
  pub slot : ℕ
  pub planned : IsPlannedOver unchanged settled.disk settled.root slot (settled.root.generation + 1) w.plan w.root w.volume
  pub epoch : log.epoch ≡ settled.root.generation + 2
  pub stays : StaysOutside w.plan.blocks (record m.seen { disk = settled.disk }) m.seen
  pub since : IsReplayed (limits_of settled.root.geometry) (newest_of lasts.bodies) w.volume running
  pub pledges : w.pledged ≡ pledged_for (limits_of settled.root.geometry) w.volume since.changes
  pub saves : planned.room.spent + w.pledged ≤ pledged

-- laws of the layers below that the proofs on points under way stand on, beside those on the images
-- that a cut leaves
pub record WayLaws : Type 0 where
  pub older : (log : LogEnd) (g : ℕ) (bodies : Bodies) (nvram : List ℕ)
      → g < 2 ^ 62 → log.epoch ≡ g + 2 → StandsAt log g bodies nvram
      → StandsAt log (g + 1) (record { older = []; newest = bodies.newest }) nvram
  pub is : (p : Planned) (old : Images) → IsPlanned p
      → HasNewRoot p old (record { disk = disk_after p old.disk; nvram = old.nvram })
  pub one : (sectors : ℕ) (p : Planned) (old new : Images) → IsPlanned p → FitsDisk sectors p
      → ((n : ℕ) → n < sectors → IsSector (new.disk n)) → HasNewRoot p old new
      → new.disk ≡ disk_after p old.disk
  pub stays : (p : Planned) (old new : Images) → IsPlanned p → StaysOutside p.blocks old new
      → disk_after p new.disk ≡ disk_after p old.disk
