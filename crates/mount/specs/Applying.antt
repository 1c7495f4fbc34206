-- What applying commands comes to.
use Rattle.std.specs.Prelude.{[], ◌∷◌, ◌++◌, ℕ, ◌/◌, slice_index, ◌≡◌, ◌≢◌, ◌⊎◌, ◌↔◌, ◌≤◌, List, map, Bool, true, false, IsFalse, IsTrue, None, Result, Ok, Err, IfErr, IfOk, IsErrOf, MatchResult, OnOk}
use Rattle.layout.specs.StateLimits.{limits_of}
use Rattle.station.specs.Calls.{Uses}
use Rattle.station.specs.Images.{Images}
use Rattle.station.specs.Moments.{Meaning, LeftBetween, HasGrown, IsSameStation, LeavesOnly}
use Rattle.station.specs.declared.station.Station.{Ghosts}
use Rattle.model.specs.Edits.{contents}
use Rattle.model.specs.declared.attributes.Attributes.{Attributes}
use Rattle.model.specs.declared.command.Command.{Command}
use Rattle.model.specs.declared.command.Command.TheVariants.{Df, Statfs}
use Rattle.model.specs.declared.errno.Errno.{Errno}
use Rattle.model.specs.declared.errno.Errno.TheVariants.{EIO, FAILED}
use Rattle.model.specs.declared.reply.Reply.{Reply}
use Rattle.model.specs.declared.reply.Reply.TheVariants as replies
use Rattle.model.specs.declared.reply.Reply.TheVariants.{Done, Refused}
use Rattle.model.specs.declared.reply.Stat.{Stat}
use Rattle.model.specs.States.{State, going}
use Rattle.model.specs.Replies.{IsAnswerTo, IsReplyTo}
use Rattle.model.specs.Room.{Need, Room}
use Rattle.model.specs.Records.{Change, TellsRoom, count_orphans}
use Rattle.model.specs.Steps.{WouldStep}
use Rattle.model.specs.Trees.{Tree}
use Rattle.model.specs.Volumes.{Volume, tree_of}
use Rattle.model.specs.Circumstances.{Circumstances, IsSure}
use Rattle.model.specs.Runs.{MayStand, MayRemain, Leads, LeavesOf, Spans}
use Rattle.layout.specs.Places.{blocks_of}
use Rattle.layout.specs.Record.{change_bytes}
use Rattle.images.specs.Contents.{HoldsVolume, tree_contents}
use Rattle.images.specs.Roots.{whole}
use Rattle.images.specs.Snapshots.{HasSnapshot}
use Rattle.oplog.specs.LogEnd.{all_bodies}
use Rattle.layout.specs.SnapRoot.{Snapshot}
use Rattle.system.specs.Counting.{AgesBy, Counted, LogsNothing, beside_reads, call_failed, perhaps_reads}
use Rattle.system.specs.Images.{OpensTo}
use Rattle.system.specs.Opening.{HasFailed}
use Rattle.images.specs.Room.{free_under}
use Rattle.system.specs.Serving.{HasEmptyLog, ServesState}
pub use Rattle.dispatch.specs.Serving.{AnswersAtOnce, IsAtOnce}
use Rattle.dispatch.specs.Serving.{HasLogged, IsAccepted, LacksRoom, TellsNoFault, TellsSettled, TellsStored}
use Rattle.system.specs.Systems as systems
use Rattle.system.specs.Systems.{AreLeft, IsCovered}
use Rattle.system.specs.declared.error.CallError.{CallError}
use Rattle.system.specs.declared.error.CallError.TheVariants.{LogFull, NoRoom, NotWritten}
use Rattle.system.specs.declared.space.Space.{Space}
use Rattle.system.specs.declared.system.System.{System}
use Rattle.mount.specs.Refusals.{errno_of_call}
use Rattle.mount.specs.Systems.{HasGenerations, HasPoints, IsYoung, Mounted, mounted, file_system_meaning, moment_of, shown_state, Serves}
use Rattle.mount.specs.declared.fs.Fs.{Fs}
use Rattle.mount.specs.declared.fs.TheConstants.{POINTS}

-- no write and no sync failed
abbrev pub NoWriteFailed : Meaning → Meaning → Type 0
NoWriteFailed old new = new.failed_writes ≡ old.failed_writes

-- so the flag tells of a count of failed calls
abbrev pub TellsOfFault : Bool → ℕ → ℕ → Type 0
TellsOfFault true old new = HasGrown old new
TellsOfFault false old new = new ≡ old

-- each byte of a file in a block that isn't stored is 0
abbrev pub HolesReadZeros : Tree → (ℕ → ℕ → Bool) → Type 0
HolesReadZeros t stored = (n p : ℕ) → IsFalse (stored n (p / 4096)) → slice_index (contents t n) p ≡ 0

-- The room of a system at a state that it serves: all blocks of its disk, those that are free under
-- its settled root, and those that a consistency point may store for what that root doesn't cover;
-- and which blocks of files are stored, by what is in memory of a file, or else by its inode under
-- the root.
pub record HasRoomAtPoint {S : Type 0} {G : Ghosts S} (f : System S G) (s : State) (room : Room) : Type 0 where
  pub serves : ServesState f s
  pub blocks : room.blocks ≡ f.root.geometry.blocks
  pub free :
      let root = serves.settled.root in
      room.free ≡ free_under (whole (blocks_of serves.settled.disk) root).active root.geometry.blocks
  pub told : TellsRoom (limits_of serves.settled.root.geometry) serves.settled.volume serves.running serves.lasts.replayed.changes room
  pub orphans : (k : ℕ) (head : Snapshot) (v : Volume)
      → let disk = blocks_of (systems.disk_of f) in
      HasSnapshot f.root (whole disk f.root) k head
      → HoldsVolume f.root.geometry.inodes (tree_contents ((whole disk f.root).frozen k)) v
      → room.orphans_of head.name ≡ count_orphans f.root.geometry.inodes v
  pub stored : TellsStored f room
  pub settled : TellsSettled f room
  pub holes : HolesReadZeros s.tree room.stored

-- time went on, and earlier moments stay as they were
pub record TimeGoesOn (old new : Meaning) : Type 0 where
  pub later : old.moment ≤ new.moment
  pub kept : (t : ℕ) (c : Images) → t ≤ old.moment → new.left_at t c ↔ old.left_at t c

-- What came in the way of a command, from one system to the next, whose station has the same
-- history up to there. Nothing is tied to memory_refused: of ENOMEM no theorem tells the cause.
pub record Between {S : Type 0} {G : Ghosts S} (old : Mounted S G) (command : Command) (new : Mounted S G) (c : Circumstances) : Type 0 where
  pub goes_on : TimeGoesOn (file_system_meaning old) (file_system_meaning new)
  pub reads : TellsOfFault c.read_failed (file_system_meaning old).failed_reads (file_system_meaning new).failed_reads
  pub writes : TellsOfFault c.write_failed (file_system_meaning old).failed_writes (file_system_meaning new).failed_writes
  pub room : new.state.mark ≡ going → HasRoomAtPoint new.fs.system new.state c.room

-- what a cut from moment a to b might have left, of a system at a state
abbrev pub LeftOf : Meaning → State → ℕ → ℕ → (State → Type 0) → Type 0
LeftOf m s a b P = LeavesOf m.left_at (λ c t. OpensTo m t c) s a b P

-- what a cut from the one meaning's moment to the other's might have left, and one at the other's
abbrev pub LeftOnTheWay : Meaning → Meaning → State → (State → Type 0) → Type 0
LeftOnTheWay old new s P = LeftOf new s old.moment new.moment P

abbrev pub LeftNow : Meaning → State → (State → Type 0) → Type 0
LeftNow m s P = LeftOf m s m.moment m.moment P

-- A command with this reply led from one system to the next, which serves what it shows. A cut at
-- any moment of the call leaves the state before it or the one after it, and at the answer the one
-- after it; where the command failed the system, a state within it.
pub record IsApplied {S : Type 0} {G : Ghosts S} (old new : Mounted S G) (command : Command) (reply : Reply) : Type 0 where
  pub serves : Serves new
  pub leads : Leads shown_state Between old (command, reply) new
  pub any_moment :
      LeftOnTheWay (file_system_meaning old) (file_system_meaning new) old.state (MayStand old.state command new.state)
  pub at_answer : LeftNow (file_system_meaning new) old.state (MayRemain old.state command new.state)

-- applied to a system at a state, a command leads to some state
abbrev pub IsAppliedAt : {S : Type 0} {G : Ghosts S} → Fs S G → State → Fs S G → Command → Reply → Type 0
IsAppliedAt old s new command reply = (t : State) × IsApplied (mounted old s) (mounted new t) command reply

-- What an accepted command logged on a system at a state, beside whose root stood records with
-- these bodies: behind it stand those of them that the newest root doesn't cover, and then one
-- record of its work where the command needed one, and nothing else.
pub record LogsItsNeed {S : Type 0} {G : Ghosts S} (before : List (List ℕ)) (s : State) (new : System S G)
    (command : Command) (reply : Reply) : Type 0 where
  pub room : Room
  pub after : State
  pub need : Need
  pub step : WouldStep room s command reply after need
  pub serves : ServesState new after
  pub running : Volume
  pub tree : s.tree ≡ tree_of running s.tree.descriptors
  pub uncovered : List Change
  pub left : AreLeft before (map change_bytes uncovered)
  pub logged : HasLogged need running uncovered serves.lasts.replayed.changes

-- What a command does to a file system at a state with P, and over any bytes: all that is promised
-- of it. Its reply is of its own kind, or a refusal. It makes so many consistency points at most.
-- EIO comes only where a device call failed, and nothing else where a write failed, which fails the
-- system; a refusal logged nothing, but where EIO came for a record, which stops the log; and a
-- sure command calls no device. Nothing but a failed write fails the system, and FAILED tells only
-- of one that had failed before, as long as the generations last.
pub record AnswersCommand {S : Type 0} {G : Ghosts S} (points : ℕ) (P : State → Type 0) (old new : Fs S G) (command : Command) (reply : Reply) : Type 0 where
  pub kind : IsReplyTo command reply
  pub uses : Uses (systems.meaning_of old.system) (systems.meaning_of new.system)
  pub eio : reply ≡ Refused EIO → HasFailed (systems.meaning_of old.system) (systems.meaning_of new.system)
  pub written : (reply ≢ Refused EIO) ⊎ IsFalse new.has_failed → NoWriteFailed (systems.meaning_of old.system) (systems.meaning_of new.system)
  pub unlogged : (errno : Errno) → reply ≡ Refused errno → (errno ≢ EIO) ⊎ IsFalse new.system.log.is_stopped
      → LogsNothing (systems.meaning_of old.system) (systems.meaning_of new.system)
  pub logs : (s : State) → Serves (mounted old s) → P s → IsAccepted reply → (served : ServesState old.system s)
      → LogsItsNeed (all_bodies served.lasts.bodies) s new.system command reply
  pub fails : HasGenerations points old → IsTrue new.has_failed
      → IsTrue old.has_failed ⊎ (reply ≡ Refused EIO)
  pub failed : HasGenerations points old → reply ≡ Refused FAILED → IsTrue old.has_failed
  pub epoch : AgesBy points old.system.log.epoch new.system.log.epoch
  pub still : (s : State) → Serves (mounted old s) → P s → IsSure s command
      → new.system.blocks.buffers.station ≡ old.system.blocks.buffers.station
  pub applied : (s : State) → Serves (mounted old s) → HasPoints points old → P s → IsAppliedAt old s new command reply

-- the same, whatever the state
abbrev pub AnswersAlways : {S : Type 0} {G : Ghosts S} → Fs S G → Fs S G → Command → Reply → Type 0
AnswersAlways old new command reply = AnswersCommand POINTS (λ s. Unit {0}) old new command reply

-- a command that waits for a consistency point: the disk has no room for it, or the log isn't empty
pub record WaitsForPoint {S : Type 0} {G : Ghosts S} (f : Fs S G) (s : State) (command : Command) : Type 0 where
  pub not_sure : ¬ IsSure s command
  pub waits : LacksRoom f.system s command ⊎ (HasEmptyLog f.system → ⊥)

-- The state that a system serves stays, and is all that a cut at any moment leaves.
pub record Stays {S : Type 0} {G : Ghosts S} (old new : Fs S G) (s : State) : Type 0 where
  pub same : IsSameStation (systems.meaning_of old.system) (systems.meaning_of new.system)
  pub serves : Serves (mounted new s)
  pub leaves : LeavesOnly (systems.meaning_of old.system) (systems.meaning_of new.system) (OpensTo (systems.meaning_of old.system) s)

-- commands with their replies led from one system to another, each durable at its answer
pub record HasRun {S : Type 0} {G : Ghosts S} (old new : Mounted S G) (steps : List (Command × Reply)) : Type 0 where
  pub goes_on : TimeGoesOn (file_system_meaning old) (file_system_meaning new)
  pub spans :
      Spans (file_system_meaning new).left_at (λ c t. OpensTo (file_system_meaning new) t c) shown_state moment_of Between
      old steps new (file_system_meaning old).moment (file_system_meaning new).moment

-- a run from a system at a state leads to some state that the system serves then
pub record RunsAt {S : Type 0} {G : Ghosts S} (old : Fs S G) (s : State) (new : Fs S G) (steps : List (Command × Reply)) : Type 0 where
  pub last : State
  pub serves : Serves (mounted new last)
  pub ran : HasRun (mounted old s) (mounted new last) steps

-- a station of the same sectors that reads what a cut between two meanings' moments might have left
pub record ReadsCut (old new other : Meaning) : Type 0 where
  pub left : LeftBetween new old.moment new.moment other.seen
  pub sectors : other.sectors ≡ new.sectors

-- From one file system to another, which goes on, no write failed and nothing was logged, by so
-- many consistency points at most, and each state that the first one serves stays.
pub record KeepsStates {S : Type 0} {G : Ghosts S} (points : ℕ) (old new : Fs S G) : Type 0 where
  pub counted : Counted (systems.meaning_of old.system) (systems.meaning_of new.system) perhaps_reads
  pub unlogged : LogsNothing (systems.meaning_of old.system) (systems.meaning_of new.system)
  pub epoch : AgesBy points old.system.log.epoch new.system.log.epoch
  pub going : IsFalse new.has_failed
  pub stays : (s : State) → Serves (mounted old s) → Stays old new s

-- What a call with no whole consistency point does to a file system that goes on.
pub record Attempts {S : Type 0} {G : Ghosts S} (old new : Fs S G) (call : Command) (result : Result Reply CallError) : Type 0 where
  pub counted : Counted (systems.meaning_of old.system) (systems.meaning_of new.system) (beside_reads (call_failed false result))
  pub no_fault : IfOk result TellsNoFault
  pub kind : IfOk result (IsReplyTo call)
  pub refused : (errno : Errno) → result ≡ Ok (Refused errno) → LogsNothing (systems.meaning_of old.system) (systems.meaning_of new.system)
  pub kept : IfErr result (λ e. e ≢ NotWritten → LogsNothing (systems.meaning_of old.system) (systems.meaning_of new.system))
  pub unlogged : IsErrOf result NotWritten → IsFalse new.system.log.is_stopped → LogsNothing (systems.meaning_of old.system) (systems.meaning_of new.system)
  pub epoch : AgesBy 1 old.system.log.epoch new.system.log.epoch
  pub calm : HasEmptyLog old.system → new.system.log.epoch ≡ old.system.log.epoch
  pub sure : (s : State) → Serves (mounted old s) → IsSure s call
      → MatchResult result (λ _. new.system.blocks.buffers.station ≡ old.system.blocks.buffers.station) (λ _. ⊥)
  pub at_once : IsAtOnce old.system.files call → MatchResult result (AnswersAtOnce old.system new.system) (λ _. ⊥)
  pub applied : (s : State) → Serves (mounted old s) → MatchResult result (IsAppliedAt old s new call)
      (λ e. e ≢ NoRoom → e ≢ LogFull → IsAppliedAt old s new call (Refused (errno_of_call e)))
  pub logs : (s : State) (served : ServesState old.system s)
      → IfOk result (LogsItsNeed (all_bodies served.lasts.bodies) s new.system call)
  pub going : MatchResult result (λ _. IsFalse new.has_failed) (λ e. e ≢ NotWritten → IsFalse new.has_failed)
  pub failed : IsErrOf result NotWritten → IsTrue new.has_failed
  pub waits : (s : State) → Serves (mounted old s)
      → IfErr result (λ e. (e ≡ NoRoom) ⊎ (e ≡ LogFull) → Stays old new s × WaitsForPoint new s call)
  pub fits : (s : State) → Serves (mounted old s) → IsErrOf result LogFull → HasEmptyLog old.system → ⊥
  pub short : (s : State) → Serves (mounted old s) → IsErrOf result NoRoom
      → LacksRoom new.system s call × (IsCovered old.system s.tree.descriptors s → IsCovered new.system s.tree.descriptors s)

-- All is in the newest root.
pub record HasCheckpointed {S : Type 0} {G : Ghosts S} (old new : Fs S G) : Type 0 where
  pub keeps : KeepsStates 1 old new
  pub rests : new.system.blocks.pending ≡ None
  pub empty : HasEmptyLog new.system
  pub covered : (s : State) → Serves (mounted old s) → IsCovered new.system s.tree.descriptors s

-- What a consistency point does to a file system that goes on, or why there is none: of a command
-- that waits for it, too.
pub record MakesRoom {S : Type 0} {G : Ghosts S} (old new : Fs S G) (result : Result (Unit {0}) Errno) : Type 0 where
  pub uses : Uses (systems.meaning_of old.system) (systems.meaning_of new.system)
  pub eio : IsErrOf result EIO → HasFailed (systems.meaning_of old.system) (systems.meaning_of new.system)
  pub written : IfErr result (λ errno. (errno ≢ EIO) ⊎ IsFalse new.has_failed → NoWriteFailed (systems.meaning_of old.system) (systems.meaning_of new.system))
  pub unlogged : LogsNothing (systems.meaning_of old.system) (systems.meaning_of new.system)
  pub fails : HasGenerations 1 old → IsTrue new.has_failed → IsErrOf result EIO
  pub failed : HasGenerations 1 old → IsErrOf result FAILED → ⊥
  pub epoch : AgesBy 1 old.system.log.epoch new.system.log.epoch
  pub made : OnOk result (HasCheckpointed old new)
  pub applied : (command : Command) (s : State) → Serves (mounted old s) → HasPoints 1 old → ¬ IsSure s command
      → IfErr result (λ errno. IsAppliedAt old s new command (Refused errno))

-- the command only tells what memory has: `df` and `statfs`
abbrev pub IsQuiet : Command → Type 0
IsQuiet Df = Unit {0}
IsQuiet Statfs = Unit {0}
IsQuiet command = ⊥

-- What is promised of a command that is applied, with its reply, whatever the images hold.
pub record AppliesCommand {S : Type 0} {G : Ghosts S} (old new : Fs S G) (command : Command) (reply : Reply) : Type 0 where
  pub answers : AnswersAlways old new command reply
  pub at_once : IsAtOnce old.system.files command → AnswersAtOnce old.system new.system reply
  pub quiet : IsQuiet command → new ≡ old
  pub failed : IsTrue old.has_failed → (reply ≡ Refused FAILED) × (new ≡ old)
  -- a run that led here goes on by this command
  pub goes_on : (first : Fs S G) (s : State) (steps : List (Command × Reply)) → RunsAt first s old steps → IsYoung old
      → RunsAt first s new (steps ++ (command, reply) ∷ [])

-- the reply that a result stands for: this one of its value, or a refusal
abbrev pub reply_of : {T : Type 0} → (T → Reply) → Result T Errno → Reply
reply_of answer (Ok it) = answer it
reply_of answer (Err errno) = Refused errno

-- what is told of a command that is done
abbrev pub done_reply : Unit {0} → Reply
done_reply it = Done

-- of a file that is opened, its descriptor and what `fstat` tells of it then
abbrev pub opened_reply : ℕ × Stat → Reply
opened_reply (fd, stat) = replies.Opened fd stat

-- of what stands somewhere, with its attributes
abbrev pub attributes_reply : Stat × Attributes → Reply
attributes_reply (stat, attributes) = replies.Attributes stat attributes

-- and of the room of the disk
abbrev pub space_reply : Space → Reply
space_reply room = replies.Space room.blocks room.free room.pledged

-- a reply to the command that is no refusal is such a one
abbrev pub HasOnlyAnswers : Command → (Reply → Type 0) → Type 0
HasOnlyAnswers command P = (reply : Reply) → IsAnswerTo command reply → P reply
