-- What a system serves, and what commands leave of it.
use Rattle.std.specs.Prelude.{◌≡◌, ◌⊎◌, ◌+◌, ◌/◌, ◌<◌, ◌≢◌, None}
use Rattle.station.specs.Moments.{Meaning, LeavesOnly}
use Rattle.station.specs.declared.station.Station.{Ghosts}
use Rattle.layout.specs.declared.log.TheConstants.{FIRST_GATE}
use Rattle.model.specs.declared.command.Command.{Command}
use Rattle.model.specs.declared.errno.Errno.{Errno}
use Rattle.model.specs.declared.errno.Errno.TheVariants.{EIO, FAILED}
use Rattle.model.specs.declared.reply.Reply.{Reply}
use Rattle.model.specs.Room.{Need, Room}
use Rattle.model.specs.States.{State}
use Rattle.model.specs.Steps.{WouldStep}
use Rattle.inofile.specs.Inodes.{HasNoChange}
use Rattle.oplog.specs.LogEnd.{next_of}
use Rattle.system.specs.Images.{OpensTo}
use Rattle.system.specs.Systems.{HasState, meaning_of}
use Rattle.system.specs.declared.system.System.{System}

-- a system serves a state, with the descriptors that this has
abbrev pub ServesState : {S : Type 0} {G : Ghosts S} → System S G → State → Type 0
ServesState f s = HasState f s.tree.descriptors s

-- what a command on a state would be answered and would leave, where nothing comes in its way; what
-- is needed may be by the room
abbrev pub WouldDo : State → Command → Reply → State → (Room → Need) → Type 0
WouldDo s call reply after need = (room : Room) → WouldStep room s call reply after (need room)

-- the errno tells neither of a device call that failed nor of a system that did
abbrev pub IsNoFault : Errno → Type 0
IsNoFault errno = (errno ≢ EIO) × (errno ≢ FAILED)

-- From one meaning to another a cut at any moment leaves the one state or the other.
abbrev pub LeavesEither : Meaning → Meaning → State → State → Type 0
LeavesEither old new s t = LeavesOnly old new (λ c. OpensTo old s c ⊎ OpensTo old t c)

-- A call on a system at a state was cut short: a cut leaves that state, or one that the call would
-- leave.
pub record IsBrokenOff {S : Type 0} {G : Ghosts S} (old new : System S G) (s : State)
    (call : Command) : Type 0 where
  pub reply : Reply
  pub after : State
  pub need : Room → Need
  pub step : WouldDo s call reply after need
  pub leaves : LeavesEither (meaning_of old) (meaning_of new) s after

-- the log has no record that the root doesn't cover
pub record HasEmptyLog {S : Type 0} {G : Ghosts S} (f : System S G) : Type 0 where
  pub epoch : f.log.epoch ≡ f.root.generation + 1
  pub end : next_of f.log.end ≡ FIRST_GATE

-- a system has nothing that its newest root doesn't hold: no point under way, no record of its own
-- in the log, and no object in memory that is changed
pub record HasNothingNew {S : Type 0} {G : Ghosts S} (f : System S G) : Type 0 where
  pub rests : f.blocks.pending ≡ None
  pub log : HasEmptyLog f
  pub settled : HasNoChange f.inodes

-- a point is to be planned: none is under way, the log is in the first epoch over the root, and
-- less than a sixteenth of its half is left
pub record IsPlanDue {S : Type 0} {G : Ghosts S} (f : System S G) : Type 0 where
  pub none : f.blocks.pending ≡ None
  pub epoch : f.log.epoch ≡ f.root.generation + 1
  pub late : f.log.half < next_of f.log.end + f.log.half / 16

-- a system serves a state that another one served, by the same records
abbrev pub ServesAsBefore : {S : Type 0} {G : Ghosts S} → (old new : System S G) (s : State) → ServesState old s → Type 0
ServesAsBefore old new s served = (serves : ServesState new s) × (serves.lasts.bodies ≡ served.lasts.bodies)
