-- What calls do to a system.
use Rattle.std.specs.Prelude.{ℕ, ◌≡◌, ◌≢◌, ◌∷◌, ◌++◌, List, [], Bool, IsFalse, IsTrue, Result, Ok, IfOk, IfErr, IsErrOf, MatchResult}
use Rattle.station.specs.Images.{Unchanged}
use Rattle.station.specs.Moments.{Goes}
use Rattle.station.specs.declared.station.Station.{Ghosts}
use Rattle.model.specs.declared.command.Command.{Command}
use Rattle.model.specs.declared.command.Command.TheVariants as command
use Rattle.model.specs.declared.errno.Errno.{Errno}
use Rattle.model.specs.declared.errno.Errno.TheVariants.{EIO, ENOMEM, FAILED}
use Rattle.model.specs.declared.reply.Reply.{Reply}
use Rattle.model.specs.declared.reply.Reply.TheVariants.{Refused}
use Rattle.model.specs.Circumstances.{IsSure}
use Rattle.model.specs.Records.{Change, work_of}
use Rattle.model.specs.Replies.{IsReplyTo}
use Rattle.model.specs.Room.{Need, Room, Work, nothing, logs}
use Rattle.model.specs.States.{State}
use Rattle.model.specs.Steps.{WouldStep}
use Rattle.model.specs.Volumes.{Volume}
use Rattle.layout.specs.Places.{blocks_of}
use Rattle.images.specs.Roots.{whole}
use Rattle.loading.specs.Images.{inodes_of}
use Rattle.descriptors.specs.declared.table.Descriptors.{Descriptors}
use Rattle.files.specs.Closing.{IsLinked}
use Rattle.records.specs.Reading as reading
use Rattle.system.specs.Counting.{Counted, call_failed}
use Rattle.system.specs.Room.{HasRoomForNeed, HasRoomForWork}
use Rattle.system.specs.Systems.{IsCovered, disk_of, meaning_of}
use Rattle.system.specs.declared.error.CallError.{CallError}
use Rattle.system.specs.declared.error.CallError.TheVariants.{Damaged, LogFull, NoRoom, NotWritten}
use Rattle.system.specs.declared.system.System.{System}
use Rattle.system.specs.Serving.{HasEmptyLog, IsBrokenOff, LeavesEither, ServesState, WouldDo}

-- the command is a call on the tree, on a descriptor or on the tree of a snapshot, or lists the
-- snapshots
abbrev pub IsCall : Command → Type 0
IsCall command.Sync = ⊥
IsCall command.Df = ⊥
IsCall command.Statfs = ⊥
IsCall (command.SnapTake name) = ⊥
IsCall (command.SnapDelete name) = ⊥
IsCall (command.SnapRestore name) = ⊥
IsCall call = Unit {0}

-- The command takes no memory and calls no device, whatever the images hold: `lseek`, `fsync`, `at`,
-- `df`, `statfs`, and `close` but of a file that has no link.
abbrev pub IsAtOnce : Descriptors → Command → Type 0
IsAtOnce files (command.Lseek fd whence offset) = Unit {0}
IsAtOnce files (command.Fsync fd) = Unit {0}
IsAtOnce files (command.At seconds nanoseconds) = Unit {0}
IsAtOnce files (command.As owner group) = Unit {0}
IsAtOnce files command.Df = Unit {0}
IsAtOnce files command.Statfs = Unit {0}
IsAtOnce files (command.Close fd) = IsLinked files fd
IsAtOnce files call = ⊥

-- what a call on a state would be answered and would leave, where nothing comes in its way,
-- whatever room there is
abbrev pub WouldCall : State → Command → Reply → State → Need → Type 0
WouldCall s call reply after need = (room : Room) → WouldStep room s call reply after need

-- so the room tells which blocks of files are stored: of each file in memory it is right
abbrev pub TellsStored : {S : Type 0} {G : Ghosts S} → System S G → Room → Type 0
TellsStored f room = reading.TellsStored (blocks_of (disk_of f)) f.inodes room.stored

-- and of each file that isn't in memory, by its inode under the root
abbrev pub TellsSettled : {S : Type 0} {G : Ghosts S} → System S G → Room → Type 0
TellsSettled f room =
    let disk = blocks_of (disk_of f) in
    reading.TellsSettled disk (inodes_of (whole disk f.root).active) f.inodes room.stored

-- which blocks of files are stored, by what a system has in memory, and by its root
abbrev pub stored_of : {S : Type 0} {G : Ghosts S} → System S G → ℕ → ℕ → Bool
stored_of f =
    let disk = blocks_of (disk_of f) in
    reading.stored_in disk (inodes_of (whole disk f.root).active) f.inodes

-- the same as WouldCall by any room that tells which blocks this system's files have stored
abbrev pub WouldCallOn : {S : Type 0} {G : Ghosts S} → System S G → State → Command → Reply → State → Need → Type 0
WouldCallOn f s call reply after need = (room : Room) → TellsStored f room → WouldStep room s call reply after need

-- the call would change something
pub record WouldChange (s : State) (call : Command) : Type 0 where
  pub reply : Reply
  pub after : State
  pub need : Room → Need
  pub step : WouldDo s call reply after need
  pub needs : (room : Room) → need room ≢ nothing

-- the reply is no refusal
abbrev pub IsAccepted : Reply → Type 0
IsAccepted reply = (errno : Errno) → reply ≢ Refused errno

-- nor does the reply
abbrev pub TellsNoFault : Reply → Type 0
TellsNoFault reply = (reply ≢ Refused EIO) × (reply ≢ Refused FAILED)

-- it doesn't tell of want of memory
abbrev pub TellsNoWant : Reply → Type 0
TellsNoWant reply = reply ≢ Refused ENOMEM

-- the records beside a root, by what a command on this volume needed: those before it, and behind
-- them one of its work where it logs
abbrev pub HasLogged : Need → Volume → List Change → List Change → Type 0
HasLogged (logs work) v before after = (change : Change) × (work ≡ work_of v change) × (after ≡ before ++ change ∷ [])
HasLogged need v before after = after ≡ before

-- A call was done on a system that serves a state: it is answered so, by what is stored at its
-- answer, the disk had room for what it needed, the system serves the state that it leaves, and the
-- log has what the call needed, and nothing else.
pub record IsCalled {S : Type 0} {G : Ghosts S} (old new : System S G) (s : State) (served : ServesState old s)
    (call : Command) (reply : Reply) : Type 0 where
  pub after : State
  pub need : Need
  pub step : WouldCallOn new s call reply after need
  pub room : HasRoomForNeed old need
  pub serves : ServesState new after
  pub logs : HasLogged need served.running served.lasts.replayed.changes serves.lasts.replayed.changes
  pub leaves : LeavesEither (meaning_of old) (meaning_of new) s after

-- A call on a system at a state would change something, and the disk has no room for its work.
pub record LacksRoom {S : Type 0} {G : Ghosts S} (f : System S G) (s : State) (call : Command) : Type 0 where
  pub reply : Reply
  pub after : State
  pub work : Work
  pub step : WouldCall s call reply after (logs work)
  pub short : HasRoomForWork f work → ⊥

-- a sure call may be done, and calls no device
pub record IsSureOn {S : Type 0} {G : Ghosts S} (old new : System S G) (s : State) (call : Command) : Type 0 where
  pub sure : IsSure s call
  pub still : new.blocks.buffers.station ≡ old.blocks.buffers.station

-- no device was called, and no want of memory is told
abbrev pub AnswersAtOnce : {S : Type 0} {G : Ghosts S} → System S G → System S G → Reply → Type 0
AnswersAtOnce old new reply = (new.blocks.buffers.station ≡ old.blocks.buffers.station) × TellsNoWant reply

-- What doing a call does to a system, whatever it serves, behind the step of a consistency point
-- that came before it. A refused call changes nothing, and a write that fails stops the log.
pub record Handles {S : Type 0} {G : Ghosts S} (old new : System S G) (call : Command) (result : Result Reply CallError) : Type 0 where
  pub counted : Counted (meaning_of old) (meaning_of new) (call_failed old.log.is_stopped result)
  pub no_fault : IfOk result TellsNoFault
  pub kind : IfOk result (IsReplyTo call)
  pub pending : new.blocks.pending ≡ old.blocks.pending
  pub epoch : new.log.epoch ≡ old.log.epoch
  pub runs : IsFalse old.log.is_stopped → MatchResult result
      (λ _. IsFalse new.log.is_stopped) (λ e. e ≢ NotWritten → IsFalse new.log.is_stopped)
  pub stops : IsErrOf result NotWritten → IsTrue new.log.is_stopped
  pub refused : (errno : Errno) → result ≡ Ok (Refused errno)
      → Goes Unchanged (meaning_of old) (meaning_of new)
  pub kept : IfErr result (λ e. e ≢ NotWritten → Goes Unchanged (meaning_of old) (meaning_of new))

-- what it does at a state that the system serves
pub record HandlesAt {S : Type 0} {G : Ghosts S} (old new : System S G) (s : State) (served : ServesState old s) (call : Command)
    (result : Result Reply CallError) : Type 0 where
  pub serves : IfErr result (λ e. e ≢ NotWritten → ServesState new s)
  pub done : IfOk result (IsCalled old new s served call)
  pub broken : IsErrOf result NotWritten → IsBrokenOff old new s call
  pub full : IsErrOf result LogFull → WouldChange s call × (HasEmptyLog old → ⊥) × (HasEmptyLog new → ⊥)
  pub short : IsErrOf result NoRoom
      → LacksRoom new s call × (IsCovered old s.tree.descriptors s → IsCovered new s.tree.descriptors s)
  pub damaged : IsErrOf result Damaged → ⊥
