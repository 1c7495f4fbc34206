-- The room of a mounted system's disk.
use Rattle.std.specs.Prelude.{ℕ, ◌+◌, ◌*◌, ◌≤◌}
use Rattle.layout.specs.StateLimits.{limits_of}
use Rattle.station.specs.declared.station.Station.{Ghosts}
use Rattle.model.specs.Records.{Change, work_of}
use Rattle.model.specs.Room.{Need, Work, nothing, logs, a_snapshot, a_restore, cost, headroom}
use Rattle.model.specs.Volumes.{Volume}
use Rattle.model.specs.declared.costs.Costs.{Costs}
use Rattle.replay.specs.Costs.{IsSizeBefore}
use Rattle.system.specs.declared.system.System.{System}

-- what records and consistency points cost on a system's disk
abbrev pub costs_on : {S : Type 0} {G : Ghosts S} → System S G → Costs
costs_on f = (limits_of f.root.geometry).costs

-- the disk has room for this work, beside all that a consistency point may store already and what
-- stays free behind it
abbrev pub HasRoomForWork : {S : Type 0} {G : Ghosts S} → System S G → Work → Type 0
HasRoomForWork f work = f.pledged + cost (costs_on f) work + (costs_on f).point + headroom (costs_on f) work ≤ f.free

-- the disk has room for a record over a file of this size, beside all that a consistency point may
-- store already, whatever stays free behind it
abbrev pub HasRoomToLog : {S : Type 0} {G : Ghosts S} → System S G → Change → ℕ → Type 0
HasRoomToLog f change size =
    (v : Volume) → IsSizeBefore v change size → f.pledged + cost (costs_on f) (work_of v change) + (costs_on f).point ≤ f.free

-- the disk has room for a snapshot: for a consistency point, and for the one that takes it
abbrev pub HasRoomToTake : {S : Type 0} {G : Ghosts S} → System S G → Type 0
HasRoomToTake f = f.pledged + 2 * (costs_on f).point + 1 ≤ f.free

-- the disk has room to make the tree that of a snapshot which keeps so many orphans: for a
-- consistency point, for the one that does it, and for what these may cost the latter
abbrev pub HasRoomBesides : {S : Type 0} {G : Ghosts S} → System S G → (orphans : ℕ) → Type 0
HasRoomBesides f orphans = f.pledged + 2 * (costs_on f).point + 1 + (costs_on f).orphan * orphans ≤ f.free

-- the disk has room for what a call needs
abbrev pub HasRoomForNeed : {S : Type 0} {G : Ghosts S} → System S G → Need → Type 0
HasRoomForNeed f nothing = Unit {0}
HasRoomForNeed f (logs work) = HasRoomForWork f work
HasRoomForNeed f a_snapshot = HasRoomToTake f
HasRoomForNeed f (a_restore orphans) = HasRoomBesides f orphans
