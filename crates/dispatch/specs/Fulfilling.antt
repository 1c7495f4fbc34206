-- What is promised of each call, a step of a consistency point before it included.
use Rattle.std.specs.Prelude.{◌≡◌, ◌≢◌, ◌⊎◌, None, Result, Ok, IfErr, IfOk, IsErrOf, IsFalse, MatchResult}
use Rattle.station.specs.Moments.{LeavesOnly}
use Rattle.station.specs.declared.station.Station.{Ghosts}
use Rattle.model.specs.Replies.{IsReplyTo}
use Rattle.model.specs.States.{State}
use Rattle.model.specs.declared.command.Command.{Command}
use Rattle.model.specs.declared.errno.Errno.{Errno}
use Rattle.model.specs.declared.reply.Reply.{Reply}
use Rattle.model.specs.declared.reply.Reply.TheVariants.{Refused}
use Rattle.model.specs.Circumstances.{IsSure}
use Rattle.oplog.specs.LogEnd.{all_bodies}
use Rattle.system.specs.Counting.{AgesBy, Counted, LogsNothing, beside_reads, call_failed}
use Rattle.system.specs.Images.{OpensTo}
use Rattle.system.specs.Serving.{HasEmptyLog, IsBrokenOff, LeavesEither, ServesState}
use Rattle.dispatch.specs.Serving.{AnswersAtOnce, IsAtOnce, IsCalled, IsSureOn, LacksRoom, TellsNoFault, WouldChange}
use Rattle.system.specs.Systems.{AreLeft, IsCovered, meaning_of}
use Rattle.system.specs.declared.error.CallError.{CallError}
use Rattle.system.specs.declared.error.CallError.TheVariants as calls
use Rattle.system.specs.declared.error.CallError.TheVariants.{LogFull, NoRoom, NotWritten}
use Rattle.system.specs.declared.system.System.{System}
use Rattle.system.specs.Slicing.{MayStep, StepsOn}

-- A call was done on a system that serves a state, behind a step of a consistency point if one was
-- due, by which the newest root may have come to cover some of the records before.
pub record IsFulfilled {S : Type 0} {G : Ghosts S} (old new : System S G) (s : State) (before : ServesState old s)
    (call : Command) (reply : Reply) : Type 0 where
  pub between : System S G
  pub served : ServesState between s
  pub left : AreLeft (all_bodies before.lasts.bodies) (all_bodies served.lasts.bodies)
  pub done : IsCalled between new s served call reply
  pub leaves : LeavesEither (meaning_of old) (meaning_of new) s done.after

-- What a call does to a system: all that is promised of it. A step of a consistency point may come
-- before its record, and comes where one is under way; what the system serves stays by that. A sure
-- call is answered, as is one that takes nothing, whatever the images hold; and a refused one logs
-- nothing, nor does one whose step failed: after that the log hasn't stopped.
pub record Fulfils {S : Type 0} {G : Ghosts S} (old new : System S G) (call : Command) (result : Result Reply CallError) : Type 0 where
  pub counted : Counted (meaning_of old) (meaning_of new) (beside_reads (call_failed old.log.is_stopped result))
  pub no_fault : IfOk result TellsNoFault
  pub kind : IfOk result (IsReplyTo call)
  pub step : MatchResult result (λ _. MayStep old.blocks.pending new.blocks.pending)
      (λ e. e ≢ NotWritten → MayStep old.blocks.pending new.blocks.pending)
  pub comes : old.blocks.pending ≢ None → IfOk result (λ _. new.log.end ≢ old.log.end → StepsOn old.blocks.pending new.blocks.pending)
  pub epoch : AgesBy 1 old.log.epoch new.log.epoch
  pub calm : HasEmptyLog old → new.log.epoch ≡ old.log.epoch
  pub runs : IsFalse old.log.is_stopped → MatchResult result
      (λ _. IsFalse new.log.is_stopped) (λ e. e ≢ NotWritten → IsFalse new.log.is_stopped)
  pub refused : (errno : Errno) → result ≡ Ok (Refused errno) → LogsNothing (meaning_of old) (meaning_of new)
  pub kept : IfErr result (λ e. e ≢ NotWritten → LogsNothing (meaning_of old) (meaning_of new))
  pub unlogged : IsErrOf result NotWritten → IsFalse new.log.is_stopped → LogsNothing (meaning_of old) (meaning_of new)
  pub stays : (s : State) → ServesState old s → IfErr result (λ e. e ≢ NotWritten
      → ServesState new s × LeavesOnly (meaning_of old) (meaning_of new) (OpensTo (meaning_of old) s))
  pub done : (s : State) → (served : ServesState old s)
      → IfOk result (IsFulfilled old new s served call)
  pub broken : (s : State) → ServesState old s → IsErrOf result NotWritten → IsBrokenOff old new s call
  pub sure : (s : State) → ServesState old s → MatchResult result
      (λ _. IsSureOn old new s call ⊎ ¬ IsSure s call) (λ _. ¬ IsSure s call)
  pub at_once : IsAtOnce old.files call → MatchResult result (AnswersAtOnce old new) (λ _. ⊥)
  pub full : (s : State) → ServesState old s → IsErrOf result LogFull
      → WouldChange s call × (HasEmptyLog old → ⊥) × (HasEmptyLog new → ⊥)
  pub short : (s : State) → ServesState old s → IsErrOf result NoRoom
      → LacksRoom new s call × (IsCovered old s.tree.descriptors s → IsCovered new s.tree.descriptors s)
  pub damaged : (s : State) → ServesState old s → IsErrOf result calls.Damaged → ⊥
