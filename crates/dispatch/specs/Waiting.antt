-- What a call does whose record waits.
use Rattle.std.specs.Prelude.{◌≡◌, ◌⊎◌, IfErr, Result, Ok, IfOk, IsErrOf, IsTrue, OnErr, OnOk, MatchResult}
use Rattle.station.specs.Moments.{HasGrown}
use Rattle.station.specs.declared.station.Station.{Ghosts}
use Rattle.layout.specs.Places.{blocks_of}
use Rattle.model.specs.Circumstances.{IsSure}
use Rattle.model.specs.Replies.{IsReplyTo}
use Rattle.model.specs.Room.{Need, Work, logs, nothing}
use Rattle.model.specs.States.{State}
use Rattle.model.specs.declared.command.Command.{Command}
use Rattle.model.specs.declared.errno.Errno.{Errno}
use Rattle.model.specs.declared.reply.Reply.{Reply}
use Rattle.model.specs.declared.reply.Reply.TheVariants.{Refused}
use Rattle.buffers.specs.Disks.{ReadsOn}
use Rattle.buffers.specs.declared.error.BlockError.{BlockError}
use Rattle.oplog.specs.Batches.{FitsHalf}
use Rattle.system.specs.Ahead.{HasStateAhead}
use Rattle.system.specs.Errors.{wait_error}
use Rattle.system.specs.Systems.{disk_of, meaning_of, system_parts}
use Rattle.system.specs.Waiting.{HasRoomForWorkBehind}
use Rattle.system.specs.Waits.{Waits}
use Rattle.system.specs.declared.error.WaitError.{WaitError}
use Rattle.system.specs.declared.error.WaitError.TheVariants.{Damaged, NotRead}
use Rattle.system.specs.declared.system.System.{System}
use Rattle.dispatch.specs.Preparing.{IsPreparedAt, only_looks}
use Rattle.dispatch.specs.Serving.{AnswersAtOnce, IsAtOnce, IsSureOn, TellsNoFault, WouldCallOn}
use Rattle.dispatch.specs.declared.prepared_call.PreparedCall.{PreparedCall}

-- this holds of the work of a need that logs; no need but that and none may wait
abbrev pub IfLogs : Need → (Work → Type 0) → Type 0
IfLogs nothing P = Unit {0}
IfLogs (logs work) P = P work
IfLogs need P = ⊥

-- the error tells that a block wasn't read, or that there was no memory
abbrev pub IsOfReading : WaitError → Type 0
IsOfReading e = (error : BlockError) × (e ≡ wait_error error)

-- A call was done in memory, ahead of what a cut leaves: it is answered so, by what is stored at its
-- answer, the disk had room for what it needed, and memory stands for the state that it leaves.
pub record IsDoneAhead {S : Type 0} {G : Ghosts S} (old new : System S G) (before after : Waits)
    (s kept : State) (call : Command) (reply : Reply) : Type 0 where
  pub next : State
  pub need : Need
  pub step : WouldCallOn new s call reply next need
  pub room : IfLogs need (λ work. HasRoomForWorkBehind old before work)
  pub ahead : HasStateAhead new after next.tree.descriptors next kept

-- A call was done at a state that memory stands for, or nothing was.
abbrev pub DoneAheadOrNot : {S : Type 0} {G : Ghosts S} → System S G → System S G → Waits → Waits → State → State → Command → Result Reply WaitError → Type 0
DoneAheadOrNot old new before after s kept call result = MatchResult result
    (IsDoneAhead old new before after s kept call)
    (λ _. HasStateAhead new before s.tree.descriptors s kept)

-- What a call does on a system whose records wait. Blocks are read, and no other device call is
-- made: so a cut leaves what it might have left before. A call that only looks leaves no record, and
-- tells no other error than of a read; nor does a refused call leave one, or one that can't wait. A
-- sure call is answered, as is one that takes nothing, whatever the images hold.
pub record WaitsBehind {S : Type 0} {G : Ghosts S} (old new : System S G) (before after : Waits)
    (call : Command) (result : Result Reply WaitError) : Type 0 where
  pub reads : ReadsOn (meaning_of old) (meaning_of new)
  pub counted : OnOk result ((meaning_of new).failed_reads ≡ (meaning_of old).failed_reads)
  pub fault : IsErrOf result NotRead → HasGrown (meaning_of old).failed_reads (meaning_of new).failed_reads
  pub parts : system_parts new ≡ record (system_parts old) {
    kept = new.blocks.buffers.kept;
    pending = new.blocks.pending;
    inodes = new.inodes;
    view = new.view;
    files = new.files;
    session = new.session;
  }
  pub pending : new.blocks.pending ≡ old.blocks.pending
  pub no_fault : IfOk result TellsNoFault
  pub kind : IfOk result (IsReplyTo call)
  pub looks : IsTrue (only_looks call) → after ≡ before
  pub own : IsTrue (only_looks call) → IfErr result IsOfReading
  pub refused : (errno : Errno) → result ≡ Ok (Refused errno) → after ≡ before
  pub kept : OnErr result (after ≡ before)
  pub half : FitsHalf old.log before.batch → FitsHalf new.log after.batch
  pub at : (s kept : State) → HasStateAhead old before s.tree.descriptors s kept
      → DoneAheadOrNot old new before after s kept call result
  pub sure : (s kept : State) → HasStateAhead old before s.tree.descriptors s kept
      → MatchResult result (λ _. IsSureOn old new s call ⊎ ¬ IsSure s call) (λ _. ¬ IsSure s call)
  pub at_once : IsAtOnce old.files call → MatchResult result (AnswersAtOnce old new) (λ _. ⊥)
  pub damaged : (s kept : State) → HasStateAhead old before s.tree.descriptors s kept
      → IsErrOf result Damaged → ⊥

-- What doing what is prepared for a call does, where its record may wait.
pub record CarriesBehind {S : Type 0} {G : Ghosts S} (old new : System S G) (before after : Waits) (prepared : PreparedCall) (result : Result Reply WaitError) : Type 0 where
  pub blocks : new.blocks ≡ old.blocks
  pub parts : system_parts new ≡ record (system_parts old) { inodes = new.inodes; files = new.files }
  pub reply : IfOk result (λ reply. reply ≡ prepared.reply)
  pub kept : OnErr result (after ≡ before)
  pub half : FitsHalf old.log before.batch → FitsHalf new.log after.batch
  pub at : (call : Command) (s kept : State) (ahead : HasStateAhead old before s.tree.descriptors s kept)
      → IsPreparedAt (system_parts old) (blocks_of (disk_of old)) ahead.shown.running call prepared
      → DoneAheadOrNot old new before after s kept call result
  pub own : (IsErrOf result NotRead → ⊥) × (IsErrOf result Damaged → ⊥)
