-- What calls are answered that log nothing.
use Rattle.std.specs.Prelude.{◌≡◌, ◌⊎◌, Result, Ok, Err, IfOk, IsErrOf, MatchResult}
use Rattle.model.specs.declared.limits.Limits.{Limits}
use Rattle.station.specs.declared.station.Station.{Ghosts}
use Rattle.model.specs.Circumstances.{IsSure}
use Rattle.model.specs.Outcomes.{Outcome}
use Rattle.model.specs.Replies.{IsReplyTo}
use Rattle.model.specs.Room.{nothing}
use Rattle.model.specs.Sessions.{new_session}
use Rattle.model.specs.States.{State}
use Rattle.model.specs.Steps.{calls}
use Rattle.model.specs.Trees.{Tree}
use Rattle.model.specs.declared.command.Command.{Command}
use Rattle.model.specs.declared.command.PathCall.{PathCall}
use Rattle.model.specs.declared.errno.Errno.{Errno}
use Rattle.model.specs.declared.reply.Reply.{Reply}
use Rattle.model.specs.declared.reply.Reply.TheVariants as reply
use Rattle.buffers.specs.Errors.{IsFault}
use Rattle.buffers.specs.Reads.{ReadsBlocks}
use Rattle.buffers.specs.declared.error.BlockError.{BlockError}
use Rattle.buffers.specs.declared.error.BlockError.TheVariants.{Damaged}
use Rattle.records.specs.declared.failure.Failure.{Failure}
use Rattle.records.specs.declared.failure.Failure.TheVariants.{Read, Refused}
use Rattle.system.specs.Errors.{call_error, wait_error}
use Rattle.system.specs.Systems.{blocks_with, system_parts}
use Rattle.system.specs.Views.{OnShown, ShowsSnapshot}
use Rattle.system.specs.declared.error.CallError.{CallError}
use Rattle.system.specs.declared.error.WaitError.{WaitError}
use Rattle.system.specs.declared.system.System.{System}
use Rattle.dispatch.specs.Serving.{AnswersAtOnce, IsAtOnce, IsSureOn, TellsNoFault, WouldCallOn}
use Rattle.dispatch.specs.Showing.{ShowsNext, ShowsState}

-- what a call by a path comes to on a tree within limits, where it only reads: whatever the session
abbrev pub asks : PathCall → Limits → Tree → Outcome
asks call limits t = calls limits new_session t call

-- a reply, or a refusal, as it is answered
abbrev pub answered_reply : Result Reply Errno → Reply
answered_reply (Ok it) = it
answered_reply (Err errno) = reply.Refused errno

-- a call that came to this, as it is answered
abbrev pub answer_to : Result Reply Failure → Result Reply BlockError
answer_to (Ok it) = Ok it
answer_to (Err (Refused errno)) = Ok (reply.Refused errno)
answer_to (Err (Read e)) = Err e

-- the same to who gave a call to be served
abbrev pub called : Result Reply BlockError → Result Reply CallError
called (Ok it) = Ok it
called (Err e) = Err (call_error e)

-- and to who gave one that may wait
abbrev pub waited : Result Reply BlockError → Result Reply WaitError
waited (Ok it) = Ok it
waited (Err e) = Err (wait_error e)

-- A call that logs nothing was answered so at a state that a system shows, which then shows the
-- next.
pub record IsAnswered {S : Type 0} {G : Ghosts S} (old new : System S G) {s : State}
    (shown : ShowsState old s) (call : Command) (reply : Reply) : Type 0 where
  pub next : State
  pub step : WouldCallOn new s call reply next nothing
  pub shows : ShowsNext old new shown next

-- What a call does to a system that logs nothing: blocks are read, another view of a snapshot may
-- be kept, and memory and the open files may change. What the system shows stays where the call
-- isn't answered. A sure one is, as is one that takes nothing, whatever the images hold.
pub record Answers {S : Type 0} {G : Ghosts S} (old new : System S G) (call : Command)
    (result : Result Reply BlockError) : Type 0 where
  pub parts : system_parts new ≡ record (system_parts old) {
    kept = new.blocks.buffers.kept;
    pending = new.blocks.pending;
    inodes = new.inodes;
    view = new.view;
    files = new.files;
    session = new.session;
  }
  pub reads : ReadsBlocks (blocks_with G) IsFault old.blocks new.blocks result
  pub view : OnShown (blocks_with G) old.blocks old.root old.view
      (λ disk snapshots. ShowsSnapshot disk old.root.geometry snapshots new.view)
  pub no_fault : IfOk result TellsNoFault
  pub kind : IfOk result (IsReplyTo call)
  pub at : (s : State) (shown : ShowsState old s)
      → MatchResult result (IsAnswered old new shown call) (λ _. ShowsNext old new shown s)
  pub sure : (s : State) → ShowsState old s → MatchResult result
      (λ _. IsSureOn old new s call ⊎ ¬ IsSure s call) (λ _. ¬ IsSure s call)
  pub at_once : IsAtOnce old.files call → MatchResult result (AnswersAtOnce old new) (λ _. ⊥)
  pub damaged : (s : State) → ShowsState old s → IsErrOf result Damaged → ⊥
