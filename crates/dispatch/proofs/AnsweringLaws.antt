-- A call that was answered and logs nothing, on a system that serves a state, and on one that is ahead of what a cut leaves.
use Rattle.std.proofs.Common.{◌≡◌, ◌⊎◌, Result, Ok, Err, inl, ap, refl, subst, sym}
use Rattle.std.specs.Prelude.{IsErrOf, IsFalse, MatchResult}
use Rattle.station.specs.Moments.{EachCut}
use Rattle.station.specs.declared.station.Station.{Ghosts}
use Rattle.station.proofs.Moments.{leaves_unchanged, weaker}
use Rattle.model.specs.Circumstances.{IsSure}
use Rattle.model.specs.Replies.{IsReplyTo}
use Rattle.model.specs.Room.{nothing}
use Rattle.model.specs.States.{State}
use Rattle.model.specs.declared.command.Command.{Command}
use Rattle.model.specs.declared.reply.Reply.{Reply}
use Rattle.buffers.specs.Errors.{IsFault}
use Rattle.buffers.specs.Reads.{ReadsBlocks}
use Rattle.buffers.specs.declared.error.BlockError.{BlockError}
use Rattle.buffers.specs.declared.error.BlockError.TheVariants as read_errors
use Rattle.oplog.specs.Batches.{FitsHalf}
use Rattle.oplog.specs.LogEnd.{LogEnd}
use Rattle.system.specs.Ahead.{HasStateAhead}
use Rattle.system.specs.Counting.{Counted, call_error_failed}
use Rattle.system.specs.Errors.{call_error, wait_error}
use Rattle.system.specs.Images.{OpensTo}
use Rattle.system.specs.Serving.{ServesState}
use Rattle.system.specs.Systems.{Parts, blocks_with, meaning_of, system_parts}
use Rattle.system.specs.Waits.{Waits}
use Rattle.system.specs.declared.error.CallError.{CallError}
use Rattle.system.specs.declared.error.CallError.TheVariants as call_errors
use Rattle.system.specs.declared.error.WaitError.TheVariants as wait_errors
use Rattle.system.specs.declared.system.System.{System}
use Rattle.system.proofs.CountingLaws.{all_read, not_read, perhaps_read}
use Rattle.system.proofs.SystemLaws.{AllOpen}
use Rattle.dispatch.specs.Answering.{Answers, IsAnswered, called, waited}
use Rattle.dispatch.specs.Serving.{AnswersAtOnce, Handles, HandlesAt, IsAtOnce, IsSureOn, TellsNoFault}
use Rattle.dispatch.specs.Waiting.{IsDoneAhead, WaitsBehind}
use Rattle.dispatch.proofs.LookedLaws.{ahead_shows, reads_on, served_shows}
use Rattle.dispatch.proofs.ShowingLaws.{KeepsViews, ahead_next, serves_next}

-- ---- its answer

-- whatever is served
pub done_handles : {S : Type 0} {G : Ghosts S} (old new : System S G) (call : Command) → new.log ≡ old.log → (reply : Reply) → ReadsBlocks (blocks_with G) IsFault old.blocks new.blocks (Ok reply) → IsReplyTo call reply → TellsNoFault reply
    → Handles old new call (Ok reply)
done_handles old new call log reply reads kind own = record {
  counted = all_read (meaning_of old) (meaning_of new) (reads_on reads).below reads.counted;
  no_fault = own;
  kind = kind;
  pending = (reads_on reads).pending;
  epoch = ap (λ (l : LogEnd). l.epoch) log;
  runs = λ runs. subst (λ (l : LogEnd). IsFalse l.is_stopped) (sym log) runs;
  stops = λ is. cc;
  refused = λ errno is. (reads_on reads).below.goes;
  kept = tt;
}

module _ {S : Type 0} {G : Ghosts S} (old new : System S G) (call : Command)
    (parts : system_parts new ≡ record (system_parts old) { kept = new.blocks.buffers.kept; pending = new.blocks.pending; inodes = new.inodes; view = new.view; files = new.files; session = new.session })
    (view : KeepsViews old new.view) (reply : Reply) (reads : ReadsBlocks (blocks_with G) IsFault old.blocks new.blocks (Ok reply)) (s : State) where
  -- at a state that is served
  pub done_serving : (served : ServesState old s) → EachCut (meaning_of old) (OpensTo (meaning_of old) s) → IsAnswered old new (served_shows served) call reply → HandlesAt old new s served call (Ok reply)
  done_serving served opens answered =
      let m = meaning_of old in
      let n = meaning_of new in
      let on = serves_next old new parts reads view served answered.next answered.shows in
      record {
        serves = tt;
        done = record {
          after = answered.next;
          need = nothing;
          step = answered.step;
          room = tt;
          serves = on.serves;
          logs = on.changes;
          leaves = weaker m n (OpensTo m s) (λ c. OpensTo m s c ⊎ OpensTo m answered.next c) (leaves_unchanged m n (OpensTo m s) opens (reads_on reads).below.goes) (λ c here. inl here);
        };
        broken = λ is. cc;
        full = λ is. cc;
        short = λ is. cc;
        damaged = λ is. cc;
      }

  -- and at one that memory is ahead by
  pub done_ahead : {waits : Waits} {kept : State} (ahead : HasStateAhead old waits s.tree.descriptors s kept) → IsAnswered old new (ahead_shows ahead) call reply → IsDoneAhead old new waits waits s kept call reply
  done_ahead ahead answered = record {
    next = answered.next;
    need = nothing;
    step = answered.step;
    room = tt;
    ahead = (ahead_next old new parts reads view ahead answered.next answered.shows).still;
  }

-- ---- whatever came of it

-- what is told of a failed read to who gave a call to be served is so
told_by : (e : BlockError) → let q : Result Reply CallError = Err (call_error e) in
    (IsErrOf q call_errors.NotWritten → ⊥) × (IsErrOf q call_errors.LogFull → ⊥) × (IsErrOf q call_errors.NoRoom → ⊥) × (IsErrOf q call_errors.Damaged → e ≡ read_errors.Damaged)
told_by read_errors.NoMemory = (λ is. cc, λ is. cc, λ is. cc, λ is. cc)
told_by read_errors.Device = (λ is. cc, λ is. cc, λ is. cc, λ is. cc)
told_by read_errors.Damaged = (λ is. cc, λ is. cc, λ is. cc, λ is. refl)

-- and to who gave one that may wait
waits_by : (e : BlockError) → (IsErrOf {T = Reply} (Err (wait_error e)) wait_errors.NotRead → e ≡ read_errors.Device) × (IsErrOf {T = Reply} (Err (wait_error e)) wait_errors.Damaged → e ≡ read_errors.Damaged)
waits_by read_errors.NoMemory = (λ is. cc, λ is. cc)
waits_by read_errors.Device = (λ is. refl, λ is. cc)
waits_by read_errors.Damaged = (λ is. cc, λ is. refl)

module _ {S : Type 0} {G : Ghosts S} {old new : System S G} {call : Command} where
  same_log : {r : Result Reply BlockError} → Answers old new call r → new.log ≡ old.log
  same_log told = ap (λ (k : Parts). k.log) told.parts

  -- which device calls failed where a block wasn't read
  counted : (e : BlockError) → Answers old new call (Err e) → Counted (meaning_of old) (meaning_of new) (call_error_failed old.log.is_stopped (call_error e))
  counted read_errors.NoMemory told = perhaps_read (meaning_of old) (meaning_of new) (reads_on told.reads).below
  counted read_errors.Device told = not_read (meaning_of old) (meaning_of new) (reads_on told.reads).below (told.reads.device refl)
  counted read_errors.Damaged told = perhaps_read (meaning_of old) (meaning_of new) (reads_on told.reads).below

  -- to who gave a call to be served
  pub handled : (r : Result Reply BlockError) → Answers old new call r → Handles old new call (called r)
  handled (Ok reply) told = done_handles old new call (same_log told) reply told.reads told.kind told.no_fault
  handled (Err e) told = record {
    counted = counted e told;
    no_fault = tt;
    kind = tt;
    pending = (reads_on told.reads).pending;
    epoch = ap (λ (l : LogEnd). l.epoch) (same_log told);
    runs = λ runs _. subst (λ (l : LogEnd). IsFalse l.is_stopped) (sym (same_log told)) runs;
    stops = λ bad. absurd ((told_by e).0 bad);
    refused = λ errno is. cc;
    kept = λ _. (reads_on told.reads).below.goes;
  }

  pub handled_at : AllOpen old → (r : Result Reply BlockError) → Answers old new call r → (s : State) (served : ServesState old s) → HandlesAt old new s served call (called r)
  handled_at opens (Ok reply) told s served = done_serving old new call told.parts told.view reply told.reads s served (opens s served) (told.at s (served_shows served))
  handled_at opens (Err e) told s served = record {
    serves = λ _. (serves_next old new told.parts told.reads told.view served s (told.at s (served_shows served))).serves;
    done = tt;
    broken = λ bad. absurd ((told_by e).0 bad);
    full = λ bad. absurd ((told_by e).1 bad);
    short = λ bad. absurd ((told_by e).2 bad);
    damaged = λ bad. told.damaged s (served_shows served) (ap (λ x. Err x) ((told_by e).3 bad));
  }

  pub surely_called : (r : Result Reply BlockError) → Answers old new call r → (s : State) → ServesState old s → MatchResult (called r) (λ _. IsSureOn old new s call ⊎ ¬ IsSure s call) (λ _. ¬ IsSure s call)
  surely_called (Ok reply) told s served = told.sure s (served_shows served)
  surely_called (Err e) told s served = told.sure s (served_shows served)

  pub called_at_once : (r : Result Reply BlockError) → Answers old new call r → IsAtOnce old.files call → MatchResult (called r) (AnswersAtOnce old new) (λ _. ⊥)
  called_at_once (Ok reply) told = told.at_once
  called_at_once (Err e) told = told.at_once

  -- and to who gave one that may wait: no record does by it
  pub waits_none : (waits : Waits) (r : Result Reply BlockError) → Answers old new call r → WaitsBehind old new waits waits call (waited r)
  waits_none waits (Ok reply) told = record {
    reads = (reads_on told.reads).below;
    counted = told.reads.counted;
    fault = λ is. cc;
    parts = told.parts;
    pending = (reads_on told.reads).pending;
    no_fault = told.no_fault;
    kind = told.kind;
    looks = λ looks. refl;
    own = λ looks. tt;
    refused = λ errno is. refl;
    kept = tt;
    half = λ fits. subst (λ (l : LogEnd). FitsHalf l waits.batch) (sym (same_log told)) fits;
    at = λ s kept ahead. done_ahead old new call told.parts told.view reply told.reads s ahead (told.at s (ahead_shows ahead));
    sure = λ s kept ahead. told.sure s (ahead_shows ahead);
    at_once = told.at_once;
    damaged = λ s kept ahead is. cc;
  }
  waits_none waits (Err e) told = record {
    reads = (reads_on told.reads).below;
    counted = tt;
    fault = λ is. told.reads.device ((waits_by e).0 is);
    parts = told.parts;
    pending = (reads_on told.reads).pending;
    no_fault = tt;
    kind = tt;
    looks = λ looks. refl;
    own = λ looks. (e, refl);
    refused = λ errno is. cc;
    kept = refl;
    half = λ fits. subst (λ (l : LogEnd). FitsHalf l waits.batch) (sym (same_log told)) fits;
    at = λ s kept ahead. (ahead_next old new told.parts told.reads told.view ahead s (told.at s (ahead_shows ahead))).still;
    sure = λ s kept ahead. told.sure s (ahead_shows ahead);
    at_once = told.at_once;
    damaged = λ s kept ahead is. told.damaged s (ahead_shows ahead) (ap (λ x. Err x) ((waits_by e).1 is));
  }
