-- Commands that change the snapshots, each behind its tests and by a consistency point of its own.
use Rattle.std.specs.Prelude.{ℕ, ◌≡◌, ◌≢◌, ◌⊎◌, OnOk, ◌+◌, ◌<◌, ◌≤◌, ◌^◌, Bool, true, false, IsTrue, IfErr, IfOk, IsErrOf, None, Result, Ok, Err}
use Rattle.station.specs.Moments.{LeavesOnly}
use Rattle.station.specs.declared.station.Station.{Ghosts}
use Rattle.layout.specs.Places.{blocks_of}
use Rattle.model.specs.Paths.{Name}
use Rattle.model.specs.Room.{IsShort, Need, Room, Work, logs}
use Rattle.model.specs.States.{State}
use Rattle.model.specs.declared.command.Command.{Command}
use Rattle.model.specs.declared.reply.Reply.TheVariants.{Done}
use Rattle.buffers.specs.Disks.{ReadsOn}
use Rattle.conspoint.specs.declared.error.PlanError.TheVariants as plan
use Rattle.snapshots.specs.Prepared.{IsPreparedOn}
use Rattle.snapshots.specs.declared.preparing.PreparedSnapshot.{PreparedSnapshot}
use Rattle.system.specs.Counting.{AgesBy, Counted, IsNoGeneration, LogsNothing, call_failed, point_failed}
use Rattle.system.specs.Errors.{IsRefused}
use Rattle.system.specs.Images.{OpensTo}
use Rattle.system.specs.Points.{KeepsSlots}
use Rattle.system.specs.Restoring.{KeepsOrphans}
use Rattle.system.specs.Room.{costs_on}
use Rattle.system.specs.Serving.{HasEmptyLog, IsBrokenOff, LeavesEither, ServesAsBefore, ServesState, WouldDo}
use Rattle.system.specs.Systems.{IsCovered, disk_of, meaning_of}
use Rattle.system.specs.declared.error.CallError.{CallError}
use Rattle.system.specs.declared.error.CallError.TheVariants.{Damaged, LogFull, NoRoom, NotWritten}
use Rattle.system.specs.declared.error.PointError.{PointError}
use Rattle.system.specs.declared.error.PointError.TheVariants as point
use Rattle.system.specs.declared.system.System.{System}

-- Nothing was done but reading blocks: a system serves what it served, by the same records.
pub record Glances {S : Type 0} {G : Ghosts S} {T : Type 0} (old new : System S G) (result : Result T CallError) : Type 0 where
  pub reads : ReadsOn (meaning_of old) (meaning_of new)
  pub counted : Counted (meaning_of old) (meaning_of new) (call_failed old.log.is_stopped result)
  pub log : new.log ≡ old.log
  pub refuses : IfErr result (λ e. (e ≢ NoRoom) × (e ≢ LogFull) × (e ≢ NotWritten))
  pub serves : (s : State) (served : ServesState old s) → ServesAsBefore old new s served
  pub damaged : (s : State) → ServesState old s → IsErrOf result Damaged → ⊥

-- why an order number past the last generation isn't given
abbrev pub LacksOrder : {S : Type 0} {G : Ghosts S} → System S G → PointError → Type 0
LacksOrder f e = ((e ≡ point.NoGeneration) × IsNoGeneration f.log.epoch)
    ⊎ ((e ≡ point.NotPlanned plan.Damaged) × (f.log.epoch < 2 ^ 62))

-- A command was done on a system at a state, of which no record is logged, and its root holds all
-- of the state that it leaves.
pub record IsCheckpointed {S : Type 0} {G : Ghosts S} (old new : System S G) (s : State) (c : Command) : Type 0 where
  pub after : State
  pub need : Room → Need
  pub step : WouldDo s c Done after need
  pub unlogged : (room : Room) (work : Work) → need room ≢ logs work
  pub covered : IsCovered new after.tree.descriptors after
  pub leaves : LeavesEither (meaning_of old) (meaning_of new) s after

-- what was prepared stands for a state that a system serves
abbrev pub IsPrepared : {S : Type 0} {G : Ghosts S} → System S G → State → PreparedSnapshot → Type 0
IsPrepared f s p = IsPreparedOn f.root (blocks_of (disk_of f)) s p

-- the room is that of a system whose newest root covers all
pub record IsRoomOf {S : Type 0} {G : Ghosts S} (f : System S G) (room : Room) : Type 0 where
  pub covered : IsTrue room.is_covered
  pub costs : room.costs ≡ costs_on f
  pub free : room.free ≡ f.free
  pub blocks : room.blocks ≡ f.root.geometry.blocks
  pub pledged : room.pledged ≡ f.pledged
  pub orphans : (name : Name) (orphans : ℕ) → KeepsOrphans f name orphans → room.orphans_of name ≡ orphans

-- The disk had no room for a command at a state, all of which the newest root holds: it stays.
pub record LacksSpace {S : Type 0} {G : Ghosts S} (old new : System S G) (s : State) (c : Command) : Type 0 where
  pub after : State
  pub need : Room → Need
  pub step : WouldDo s c Done after need
  pub short : (room : Room) → IsRoomOf new room → IsShort room (need room)
  pub covered : IsCovered new s.tree.descriptors s
  pub leaves : LeavesOnly (meaning_of old) (meaning_of new) (OpensTo (meaning_of old) s)

-- a command was done, or there was no room for it
abbrev pub IsMade : {S : Type 0} {G : Ghosts S} → (old new : System S G) → State → Command → Bool → Type 0
IsMade old new s c true = IsCheckpointed old new s c
IsMade old new s c false = LacksSpace old new s c

-- what a command answers behind its own point, for which there was room
abbrev pub made_of : Result (Unit {0}) PointError → Result Bool PointError
made_of (Ok it) = Ok true
made_of (Err e) = Err e

-- What a command that changes the snapshots does to a system at a state with P, after its tests:
-- all that is promised of it. It makes two consistency points at most, and logs nothing.
pub record Checkpoints {S : Type 0} {G : Ghosts S} (old new : System S G) (P : State → Type 0) (c : Command) (result : Result Bool PointError) : Type 0 where
  pub counted : Counted (meaning_of old) (meaning_of new) (point_failed result)
  pub unlogged : LogsNothing (meaning_of old) (meaning_of new)
  pub epoch : AgesBy 2 old.log.epoch new.log.epoch
  pub runs : new.log.is_stopped ≡ old.log.is_stopped
  pub done : (s : State) → ServesState old s → P s → IfOk result (IsMade old new s c)
  pub stays : (s : State) → ServesState old s → IfErr result (λ e. IsRefused e
      → ServesState new s × LeavesOnly (meaning_of old) (meaning_of new) (OpensTo (meaning_of old) s))
  pub broken : (s : State) → ServesState old s → P s → IsErrOf result point.NotWritten → IsBrokenOff old new s c
  pub roomy : (s : State) → ServesState old s → P s → IsErrOf result (point.NotPlanned plan.NoSpace) → ⊥
  pub damaged : (s : State) → ServesState old s → P s → IsErrOf result (point.NotPlanned plan.Damaged) → ⊥
  pub last : (s : State) → ServesState old s → P s → IsErrOf result point.NoGeneration → 2 ^ 62 < old.log.epoch + 2
  pub past : IsErrOf result point.NoGeneration → 1 ≤ old.log.epoch → 2 ^ 62 < old.log.epoch + 2

-- What bringing all under the newest root does to a system, by one consistency point at most beside
-- the one under way: its log is empty then, and what it serves stays, also at a cut at any moment.
-- Nothing is logged.
pub record MakesCovered {S : Type 0} {G : Ghosts S} (old new : System S G) (result : Result (Unit {0}) PointError) : Type 0 where
  pub counted : Counted (meaning_of old) (meaning_of new) (point_failed result)
  pub unlogged : LogsNothing (meaning_of old) (meaning_of new)
  pub epoch : AgesBy 1 old.log.epoch new.log.epoch
  pub runs : new.log.is_stopped ≡ old.log.is_stopped
  pub leaves : (s : State) → ServesState old s → LeavesOnly (meaning_of old) (meaning_of new) (OpensTo (meaning_of old) s)
  pub rests : OnOk result (new.blocks.pending ≡ None)
  pub empty : OnOk result (HasEmptyLog new)
  pub covered : (s : State) → ServesState old s → OnOk result (IsCovered new s.tree.descriptors s)
  pub slots : (s : State) → ServesState old s → OnOk result (KeepsSlots old new)
  pub refused : (s : State) → ServesState old s → IfErr result (λ e. IsRefused e → ServesState new s)
  pub roomy : (s : State) → ServesState old s → IsErrOf result (point.NotPlanned plan.NoSpace) → ⊥
  pub damaged : (s : State) → ServesState old s → IsErrOf result (point.NotPlanned plan.Damaged) → ⊥
  pub last : (s : State) → ServesState old s → IsErrOf result point.NoGeneration → 2 ^ 62 ≤ old.log.epoch
  pub past : IsErrOf result point.NoGeneration → IsNoGeneration old.log.epoch
