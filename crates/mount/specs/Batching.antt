-- Commands that wait to become durable, and the batches that they make.
use Rattle.std.specs.Prelude.{ℕ, ◌≡◌, ◌≢◌, ◌⊎◌, ◌++◌, ◌∷◌, [], List, IsFalse, IsTrue, Option, Some, None, IfSome, MatchOption, Result, Ok, Err, IfErr, IsErrOf, MatchResult, OnErr, OnOk}
use Rattle.station.specs.Calls.{Uses}
use Rattle.station.specs.Moments.{IsSameStation, LeavesOnly, MayGrow, Meaning}
use Rattle.station.specs.declared.station.Station.{Ghosts}
use Rattle.model.specs.Circumstances.{Allowed, Circumstances}
use Rattle.model.specs.Replies.{IsReplyTo}
use Rattle.model.specs.Room.{Room}
use Rattle.model.specs.Runs.{Leads, Runs}
use Rattle.model.specs.States.{State, going}
use Rattle.model.specs.Trees.{Description}
use Rattle.model.specs.declared.command.Command.{Command}
use Rattle.model.specs.declared.errno.Errno.{Errno}
use Rattle.model.specs.declared.errno.Errno.TheVariants.{EIO, FAILED}
use Rattle.model.specs.declared.reply.Reply.{Reply}
use Rattle.model.specs.declared.reply.Reply.TheVariants.{Refused}
use Rattle.dispatch.specs.Serving.{AnswersAtOnce, IsAtOnce, TellsSettled, TellsStored}
use Rattle.system.specs.Ahead.{HasStateAhead}
use Rattle.system.specs.Counting.{AgesBy, Counted, Failed, LogsNothing, a_write, no_call}
use Rattle.system.specs.Images.{OpensTo}
use Rattle.system.specs.Opening.{HasFailed}
use Rattle.system.specs.Serving.{LeavesEither, ServesState}
use Rattle.system.specs.Systems as systems
use Rattle.system.specs.Systems.{HasState}
use Rattle.system.specs.Waits.{Waits, none_waits}
use Rattle.mount.specs.Applying.{AppliesCommand, Between, HolesReadZeros, NoWriteFailed, TellsOfFault, TimeGoesOn}
use Rattle.mount.specs.Batches.{Batch, SpansBatches, all_steps, alone, lost, together}
use Rattle.mount.specs.Systems.{HasGenerations, HasPoints, IsYoung, Mounted, file_system_meaning, mark_of, moment_of, mounted, shown_state}
use Rattle.mount.specs.declared.fs.Fs.{Fs}
use Rattle.mount.specs.declared.fs.TheConstants.{POINTS}
use Rattle.mount.specs.declared.waiting.Waiting.{Waiting}

-- the meaning of its station
abbrev pub meaning_of : {S : Type 0} {G : Ghosts S} → Waiting S G → Meaning
meaning_of w = systems.meaning_of w.fs.system

-- So the room tells which blocks of files are stored, by what is in memory of a file, or else by its
-- inode under the root; each byte of a block that isn't is 0.
pub record TellsBlocks {S : Type 0} {G : Ghosts S} (m : Mounted S G) (room : Room) : Type 0 where
  pub stored : TellsStored m.fs.system room
  pub settled : TellsSettled m.fs.system room
  pub holes : HolesReadZeros m.state.tree room.stored

-- What came in the way of a command that may wait, from one system to the next: it is as Between,
-- but that of the disk's room nothing is told, since a command that lacks room can't wait.
pub record BetweenWaiting {S : Type 0} {G : Ghosts S} (old : Mounted S G) (command : Command) (new : Mounted S G) (c : Circumstances) : Type 0 where
  pub goes_on : TimeGoesOn (file_system_meaning old) (file_system_meaning new)
  pub reads : TellsOfFault c.read_failed (file_system_meaning old).failed_reads (file_system_meaning new).failed_reads
  pub writes : TellsOfFault c.write_failed (file_system_meaning old).failed_writes (file_system_meaning new).failed_writes
  pub stored : new.state.mark ≡ going → TellsBlocks new c.room

-- What was done became durable, or nothing was done: the state stays, and time went on.
pub record Settles {S : Type 0} {G : Ghosts S} (old new : Mounted S G) : Type 0 where
  pub state : new.state ≡ old.state
  pub goes_on : TimeGoesOn (file_system_meaning old) (file_system_meaning new)
  pub reads : MayGrow (file_system_meaning old).failed_reads (file_system_meaning new).failed_reads
  pub writes : NoWriteFailed (file_system_meaning old) (file_system_meaning new)

-- A file system shows a state, and a cut leaves another one: what was done since then waits.
pub record Shows {S : Type 0} {G : Ghosts S} (w : Waiting S G) (s kept : State) : Type 0 where
  pub honest : (meaning_of w).is_honest
  pub goes : IsFalse w.fs.has_failed
  pub ahead : HasStateAhead w.fs.system w.records s.tree.descriptors s kept

-- Batches of commands led from a file system at a state to another one, each durable at one moment;
-- behind them further commands were done, which wait.
pub record RunsInBatches {S : Type 0} {G : Ghosts S} (first : Fs S G) (s : State) (w : Waiting S G) (batches : List Batch)
    (steps : List (Command × Reply)) : Type 0 where
  -- behind the batches, with the state that a cut leaves
  pub border : Mounted S G
  -- behind the commands that wait, with the state that is shown
  pub last : Mounted S G
  pub same : IsSameStation (file_system_meaning (mounted first s)) (meaning_of w)
  pub goes_on : TimeGoesOn (file_system_meaning (mounted first s)) (meaning_of w)
  pub spans : SpansBatches shown_state Settles Between BetweenWaiting (meaning_of w).left_at (λ c t. OpensTo (meaning_of w) t c) moment_of
      (mounted first s) batches border (file_system_meaning (mounted first s)).moment (meaning_of w).moment
  pub waits : Runs shown_state BetweenWaiting border steps last
  pub settles : Settles last (mounted w.fs last.state)
  pub mark : last.state.mark ≡ mark_of w.fs.has_failed
  pub shows : IsFalse w.fs.has_failed → Shows w last.state border.state
  pub lost : IsTrue w.fs.has_failed → steps ≡ []

-- all of a run's commands with their replies, those that wait behind those that are durable
abbrev pub steps_so_far : List Batch → List (Command × Reply) → List (Command × Reply)
steps_so_far batches steps = all_steps batches ++ steps

-- A command led from a state that is shown to another one, and what a cut leaves stays.
pub record IsShownNext {S : Type 0} {G : Ghosts S} (old new : Waiting S G) (s kept : State) (command : Command) (reply : Reply) : Type 0 where
  pub next : State
  pub shows : Shows new next kept
  pub leads : Leads shown_state BetweenWaiting (mounted old.fs s) (command, reply) (mounted new.fs next)

-- What is promised of a command that may wait, whatever the images hold: no device is written to.
-- None is answered where it can't wait; then nothing was done, as where it is refused.
pub record MayWait {S : Type 0} {G : Ghosts S} (old new : Waiting S G) (command : Command) (result : Option Reply) : Type 0 where
  pub kind : IfSome result (IsReplyTo command)
  pub uses : Uses (meaning_of old) (meaning_of new)
  pub eio : result ≡ Some (Refused EIO) → HasFailed (meaning_of old) (meaning_of new)
  pub written : NoWriteFailed (meaning_of old) (meaning_of new)
  pub unlogged : LogsNothing (meaning_of old) (meaning_of new)
  pub epoch : new.fs.system.log.epoch ≡ old.fs.system.log.epoch
  pub goes : new.fs.has_failed ≡ old.fs.has_failed
  pub failed : IsTrue old.fs.has_failed → (result ≡ Some (Refused FAILED)) × (new ≡ old)
  pub was_failed : result ≡ Some (Refused FAILED) → IsTrue old.fs.has_failed
  pub refused : (errno : Errno) → result ≡ Some (Refused errno) → new.records ≡ old.records
  pub stays : result ≡ None → new.records ≡ old.records
  pub at_once : IsAtOnce old.fs.system.files command → IsFalse old.fs.has_failed → IfSome result (AnswersAtOnce old.fs.system new.fs.system)
  -- what is shown and what a cut leaves
  pub shows : (s kept : State) → Shows old s kept → MatchOption result (Shows new s kept) (IsShownNext old new s kept command)
  -- a run goes on by this command, which waits
  pub goes_on : (first : Fs S G) (s : State) (batches : List Batch) (steps : List (Command × Reply)) → RunsInBatches first s old batches steps → IsFalse old.fs.has_failed
      → MatchOption result (RunsInBatches first s new batches steps) (λ reply. RunsInBatches first s new batches (steps ++ (command, reply) ∷ []))

-- a batch behind others, of commands that became durable together or were lost
abbrev pub with_batch : List Batch → Batch → List Batch
with_batch batches batch = batches ++ batch ∷ []

-- What making durable what waits does, whatever the images hold. Where it fails the system has
-- failed, and a cut leaves the state before all that waited or the one behind all of it.
pub record CommitsAll {S : Type 0} {G : Ghosts S} (old new : Waiting S G) (result : Result (Unit {0}) Errno) : Type 0 where
  pub uses : Uses (meaning_of old) (meaning_of new)
  pub eio : IsErrOf result EIO → HasFailed (meaning_of old) (meaning_of new)
  pub written : OnOk result (NoWriteFailed (meaning_of old) (meaning_of new))
  pub epoch : new.fs.system.log.epoch ≡ old.fs.system.log.epoch
  pub failed : IsTrue old.fs.has_failed → IsErrOf result FAILED × (new ≡ old)
  pub goes : OnOk result (IsFalse new.fs.has_failed)
  pub fails : OnErr result (IsTrue new.fs.has_failed)
  pub own : IsFalse old.fs.has_failed → IfErr result (λ errno. errno ≡ EIO)
  pub idle : IsFalse old.fs.has_failed → old.records ≡ none_waits → new.fs ≡ old.fs
  pub emptied : new.records ≡ none_waits
  pub shows : (s kept : State) → Shows old s kept → OnOk result (Shows new s s)
  -- a run goes on by all that waited, as one batch
  pub goes_on : (first : Fs S G) (s : State) (batches : List Batch) (steps : List (Command × Reply)) → RunsInBatches first s old batches steps → IsFalse old.fs.has_failed
      → MatchResult result (λ done. RunsInBatches first s new (with_batch batches (together steps)) [])
      (λ errno. RunsInBatches first s new (with_batch batches (lost steps)) [])

-- A command led from a state that is shown to another one: its reply is one that it may have, by what
-- came in its way.
abbrev pub IsAllowed : State → Command → Reply → State → Type 0
IsAllowed s command reply t = (c : Circumstances) × Allowed c s command reply t

-- A command was answered that was durable at its answer, where nothing waited before it: all that is
-- promised of a command, and a run in batches goes on by it.
pub record AppliesAlone {S : Type 0} {G : Ghosts S} (old new : Waiting S G) (command : Command) (reply : Reply) : Type 0 where
  pub applies : AppliesCommand old.fs new.fs command reply
  pub waits : new.records ≡ none_waits
  pub shows : (s : State) → Shows old s s → HasPoints POINTS old.fs → IsFalse new.fs.has_failed
      → (t : State) × Shows new t t × IsAllowed s command reply t
  pub goes_on : (first : Fs S G) (s : State) (batches : List Batch) → RunsInBatches first s old batches [] → IsFalse old.fs.has_failed → IsYoung old.fs
      → RunsInBatches first s new (with_batch batches (alone (command, reply))) []

-- How a run in batches went on by a command: it waits, or what waited became durable together and
-- then it alone; or what waited was lost, and it wasn't done.
abbrev pub GoesOnInBatches : {S : Type 0} {G : Ghosts S} → Fs S G → State → Waiting S G → List Batch → List (Command × Reply) → Command → Reply → Type 0
GoesOnInBatches first s new batches steps command reply =
    RunsInBatches first s new batches (steps ++ (command, reply) ∷ [])
    ⊎ RunsInBatches first s new (with_batch (with_batch batches (together steps)) (alone (command, reply))) []
    ⊎ (reply ≡ Refused EIO) × RunsInBatches first s new (with_batch batches (lost steps)) []

-- What is promised of a command that waits, or that what waits becomes durable before, whatever the
-- images hold.
pub record AppliesInBatches {S : Type 0} {G : Ghosts S} (old new : Waiting S G) (command : Command) (reply : Reply) : Type 0 where
  pub kind : IsReplyTo command reply
  pub uses : Uses (meaning_of old) (meaning_of new)
  pub eio : reply ≡ Refused EIO → HasFailed (meaning_of old) (meaning_of new)
  pub written : (reply ≢ Refused EIO) ⊎ IsFalse new.fs.has_failed → NoWriteFailed (meaning_of old) (meaning_of new)
  pub fails : HasGenerations POINTS old.fs → IsTrue new.fs.has_failed → IsTrue old.fs.has_failed ⊎ (reply ≡ Refused EIO)
  pub epoch : AgesBy POINTS old.fs.system.log.epoch new.fs.system.log.epoch
  pub failed : IsTrue old.fs.has_failed → (reply ≡ Refused FAILED) × (new ≡ old)
  pub shows : (s kept : State) → Shows old s kept → HasPoints POINTS old.fs → IsFalse new.fs.has_failed
      → (t now_kept : State) × Shows new t now_kept × IsAllowed s command reply t
  pub goes_on : (first : Fs S G) (s : State) (batches : List Batch) (steps : List (Command × Reply)) → RunsInBatches first s old batches steps → IsFalse old.fs.has_failed
      → IsYoung old.fs → GoesOnInBatches first s new batches steps command reply

-- which device calls failed of a commit: none, or a write
abbrev pub commit_failed : Result (Unit {0}) Errno → Failed
commit_failed (Ok done) = no_call
commit_failed (Err errno) = a_write

-- What putting the records that wait into the log does, whatever the images hold: a cut leaves what
-- it left, or the state that is shown, which is served then.
pub record LogsTogether {S : Type 0} {G : Ghosts S} (old new : Fs S G) (before after : Waits) (result : Result (Unit {0}) Errno) : Type 0 where
  pub counted : Counted (systems.meaning_of old.system) (systems.meaning_of new.system) (commit_failed result)
  pub epoch : new.system.log.epoch ≡ old.system.log.epoch
  pub own : IfErr result (λ errno. errno ≡ EIO)
  pub goes : OnOk result (IsFalse new.has_failed)
  pub fails : OnErr result (IsTrue new.has_failed)
  pub emptied : OnOk result (after ≡ none_waits)
  pub leaves : (table : ℕ → Option Description) (s kept : State) → HasStateAhead old.system before table s kept
      → LeavesEither (systems.meaning_of old.system) (systems.meaning_of new.system) kept s
  pub serves : (table : ℕ → Option Description) (s kept : State) → HasStateAhead old.system before table s kept
      → OnOk result (HasState new.system table s)

-- so do all that wait
pub record LogsAll {S : Type 0} {G : Ghosts S} (old new : Waiting S G) (result : Result (Unit {0}) Errno) : Type 0 where
  pub logs : LogsTogether old.fs new.fs old.records none_waits result
  pub emptied : new.records ≡ none_waits

-- What slices of a consistency point do to a file system that goes on: a state that it serves stays.
pub record MakesSlices {S : Type 0} {G : Ghosts S} (old new : Fs S G) (result : Result (Unit {0}) Errno) : Type 0 where
  pub uses : Uses (systems.meaning_of old.system) (systems.meaning_of new.system)
  pub eio : OnErr result (HasFailed (systems.meaning_of old.system) (systems.meaning_of new.system))
  pub written : OnOk result (NoWriteFailed (systems.meaning_of old.system) (systems.meaning_of new.system))
  pub epoch : new.system.log.epoch ≡ old.system.log.epoch
  pub own : IfErr result (λ errno. errno ≡ EIO)
  pub goes : OnOk result (IsFalse new.has_failed)
  pub fails : OnErr result (IsTrue new.has_failed)
  pub leaves : (s : State) → ServesState old.system s → LeavesOnly (systems.meaning_of old.system) (systems.meaning_of new.system) (OpensTo (systems.meaning_of old.system) s)
  pub serves : (s : State) → ServesState old.system s → OnOk result (ServesState new.system s)
