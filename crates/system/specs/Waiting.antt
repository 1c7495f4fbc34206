-- What letting a record wait does.
use Rattle.std.specs.Prelude.{ℕ, ◌≡◌, ◌+◌, ◌<◌, ◌≤◌, ◌/◌, None, OnOk, IsErrOf, Option, Result, length}
use Rattle.layout.specs.StateLimits.{limits_of}
use Rattle.station.specs.declared.station.Station.{Ghosts}
use Rattle.model.specs.Records.{Change, applied, work_of}
use Rattle.model.specs.Room.{Work, cost, headroom}
use Rattle.model.specs.States.{State}
use Rattle.model.specs.Trees.{Description}
use Rattle.model.specs.Volumes.{swept}
use Rattle.oplog.specs.LogEnd.{next_of}
use Rattle.records.specs.declared.prepared.Prepared.{Prepared}
use Rattle.system.specs.Ahead.{HasStateAhead, HasStateAheadBy}
use Rattle.system.specs.Logging.{Advances, DoesOver}
use Rattle.system.specs.Room.{costs_on}
use Rattle.system.specs.Systems.{state_with}
use Rattle.system.specs.Waits.{Waits}
use Rattle.system.specs.declared.error.WaitError.{WaitError}
use Rattle.system.specs.declared.error.WaitError.TheVariants.{NoRoom}
use Rattle.system.specs.declared.system.System.{System}

-- the disk has room for this work, beside all that a consistency point may store already, what it
-- may store for the records that wait, and what stays free behind it
abbrev pub HasRoomForWorkBehind : {S : Type 0} {G : Ghosts S} → System S G → Waits → Work → Type 0
HasRoomForWorkBehind f waits work =
    f.pledged + waits.pledged + cost (costs_on f) work + (costs_on f).point + headroom (costs_on f) work ≤ f.free

-- a point is to be planned, were the records that wait in the log: none is under way, the log is in
-- the first epoch over the root, and less than a sixteenth of its half is left behind them
pub record IsPlanDueBehind {S : Type 0} {G : Ghosts S} (f : System S G) (waits : Waits) : Type 0 where
  pub none : f.blocks.pending ≡ None
  pub epoch : f.log.epoch ≡ f.root.generation + 1
  pub late : f.log.half < next_of f.log.end + length waits.batch + f.log.half / 16

-- What letting a record wait with its prepared change does to a system that is ahead of what a cut
-- leaves: the disk has room for it, or the system lacks that; and where it applies memory goes on
-- to the state that it leads to, and a cut leaves what it left.
pub record WaitsAt {S : Type 0} {G : Ghosts S} (old new : System S G) (before after : Waits) (table : ℕ → Option Description) (s kept : State)
    (ahead : HasStateAhead old before table s kept) (change : Change) (prepared : Prepared) (result : Result (Unit {0}) WaitError) : Type 0 where
  pub room : OnOk result (HasRoomForWorkBehind old before (work_of ahead.shown.running change))
  pub short : IsErrOf result NoRoom → HasRoomForWorkBehind old before (work_of ahead.shown.running change) → ⊥
  pub done : Advances (limits_of old.root.geometry) ahead.shown.running table change → DoesOver old ahead.shown.running prepared change
      → let next = swept table (applied change ahead.shown.running) in
      OnOk result (HasStateAheadBy new after table (state_with (limits_of old.root.geometry) old.session next table ahead.shown.snapshots) kept next)
