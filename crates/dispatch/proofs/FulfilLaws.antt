-- What a call comes to: it is prepared, a step of a consistency point may come before its record, and then it is done.
use Rattle.std.proofs.Common.{◌≡◌, ◌≢◌, ◌⊎◌, inl, inr, Bool, ℕ, Result, Ok, Err, Option, None, refl, ap, sym, subst, ◌∙◌}
use Rattle.std.specs.Prelude.{IfErr, IfOk, IsFalse, IsTrue, MatchResult}
use Rattle.std.proofs.lemmas.Bool.{false≢true}
use Rattle.std.proofs.lemmas.Result.{IfErr-weaker, IfOk-weaker}
use Rattle.station.specs.Images.{Images, Unchanged}
use Rattle.station.specs.Moments.{Goes, MayLeave}
use Rattle.station.specs.declared.station.Station.{Ghosts}
use Rattle.station.proofs.Moments.{goes_on_unchanged, joined, weaker}
use Rattle.layout.specs.Places.{blocks_of}
use Rattle.model.specs.Circumstances.{IsSure}
use Rattle.model.specs.States.{State}
use Rattle.model.specs.declared.command.Command.{Command}
use Rattle.model.specs.declared.reply.Reply.{Reply}
use Rattle.buffers.specs.declared.error.BlockError.{BlockError}
use Rattle.records.specs.declared.failure.Failure.{Failure}
use Rattle.oplog.specs.LogEnd.{LogEnd}
use Rattle.oplog.specs.declared.log.End.{End}
use Rattle.overlay.specs.declared.pending.PendingPoint.{PendingPoint}
use Rattle.dispatch.specs.Answering.{Answers, called}
use Rattle.system.specs.Counting.{AgesBy, Counted, LogsNothing, a_write, beside_reads, call_failed}
use Rattle.system.specs.Images.{OpensTo}
use Rattle.dispatch.specs.Preparing.{IsPreparedAt, PreparesOn}
use Rattle.system.specs.Serving.{IsPlanDue, LeavesEither, ServesState}
use Rattle.dispatch.specs.Serving.{AnswersAtOnce, Handles, HandlesAt, IsAtOnce, IsSureOn, WouldChange}
use Rattle.system.specs.Slicing.{MayStep, StaysReady, Steps, StepsOn}
use Rattle.dispatch.specs.Fulfilling.{Fulfils}
use Rattle.system.specs.Systems.{Parts, disk_of, meaning_of, system_parts}
use Rattle.system.specs.declared.error.CallError.{CallError}
use Rattle.system.specs.declared.error.CallError.TheVariants.{NotWritten}
use Rattle.system.specs.declared.error.PointError.{PointError}
use Rattle.dispatch.specs.declared.prepared_call.PreparedCall.{PreparedCall}
use Rattle.system.specs.declared.system.System.{System}
use Rattle.system.proofs.CountingLaws.{logged_twice, nothing_logged, same_age}
use Rattle.system.proofs.SystemLaws.{opens_same}
use Rattle.dispatch.proofs.HandlingLaws.{same_empty}
use Rattle.dispatch.proofs.AnsweringLaws.{called_at_once, handled, handled_at, surely_called}
use Rattle.dispatch.proofs.LookedLaws.{reads_on, served_shows}
use Rattle.system.proofs.SystemLaws.{AllOpen}
use Rattle.dispatch.proofs.ServingLaws.{NotSure}
use Rattle.dispatch.proofs.BeforeLaws.{IsBefore, IsPreparedBehind, both, counted_beside, failed_first, nothing_before, planned_before, prepared_after, prepared_by, prepared_sliced, would_change}

-- ---- the call

-- what holds in any case
whichever : {P : Type 0} (q : Result Reply CallError) → P → MatchResult q (λ _. P) (λ e. e ≢ NotWritten → P)
whichever (Ok reply) is = is
whichever (Err e) is = λ other. is

-- what holds behind an error, with what follows from what else does
and_so : (P Q R : Type 0) (q : Result Reply CallError) → (P → R) → IfErr q (λ e. e ≢ NotWritten → P) → IfErr q (λ e. e ≢ NotWritten → Q) → IfErr q (λ e. e ≢ NotWritten → Q × R)
and_so P Q R (Ok reply) to one two = tt
and_so P Q R (Err e) to one two = λ other. (two other, to (one other))

-- where the log's end moves a step was done, or it doesn't move
stepped_or : (P Q : Type 0) (q : Result Reply CallError) → P → IfOk q (λ _. Q → P)
stepped_or P Q (Ok reply) is = λ moved. is
stepped_or P Q (Err e) is = tt

unmoved : (P : Type 0) {end now : End} (q : Result Reply CallError) → now ≡ end → IfOk q (λ _. now ≢ end → P)
unmoved P (Ok reply) is = λ moved. absurd (moved is)
unmoved P (Err e) is = tt

not_both : {X : Type 0} {b : Bool} → IsFalse b → IsTrue b → X
not_both runs stopped = absurd (false≢true (sym runs ∙ stopped))

-- a step of the point under way was done, or none, and then the log's end moves only where none is under way
abbrev pub StepsOrWaits : {S : Type 0} {G : Ghosts S} → System S G → System S G → Type 0
StepsOrWaits old new = StepsOn old.blocks.pending new.blocks.pending ⊎ ((new.blocks.pending ≡ old.blocks.pending) × (old.blocks.pending ≢ None → new.log.end ≡ old.log.end))

may_step : {S : Type 0} {G : Ghosts S} (old new : System S G) → StepsOrWaits old new → MayStep old.blocks.pending new.blocks.pending
may_step old new (inl steps) = inr steps
may_step old new (inr waits) = inl waits.0

module _ {S : Type 0} {G : Ghosts S} {old mid : System S G} (new : System S G) (call : Command) (before : IsBefore old mid) (ages : AgesBy 1 old.log.epoch mid.log.epoch) where
  -- what the call leaves behind it
  leaves_either : (s after : State) → ServesState old s → LeavesEither (meaning_of mid) (meaning_of new) s after → LeavesEither (meaning_of old) (meaning_of new) s after
  leaves_either s after served leaves =
      let m = meaning_of old in
      let n = meaning_of mid in
      let sectors = before.counted.uses.same.sectors in
      let Q = λ (c : Images). OpensTo m s c ⊎ OpensTo m after c in
      joined m n (meaning_of new) Q (weaker m n (OpensTo m s) Q (before.leaves s served) (λ c here. inl here))
      (weaker n (meaning_of new) (λ c. OpensTo n s c ⊎ OpensTo n after c) Q leaves (λ c here. elim here [
        | inl first ↦ inl (opens_same m n s c sectors first)
        | inr behind ↦ inr (opens_same m n after c sectors behind)
      ]))

  pub fulfilled : (q : Result Reply CallError) → Handles mid new call q → ((s : State) (served : ServesState old s) → HandlesAt mid new s (before.rest s served).serves call q) → StepsOrWaits old new
      → ((s : State) → ServesState old s → MatchResult q (λ _. IsSureOn old new s call ⊎ ¬ IsSure s call) (λ _. ¬ IsSure s call))
      → (IsAtOnce old.files call → MatchResult q (AnswersAtOnce old new) (λ _. ⊥)) → Fulfils old new call q
  fulfilled q told at came sure at_once =
      let m = meaning_of old in
      let b = meaning_of mid in
      let n = meaning_of new in
      record {
        counted = subst (λ (stopped : Bool). Counted m n (beside_reads (call_failed stopped q))) before.runs (counted_beside m b n (call_failed mid.log.is_stopped q) before.counted told.counted);
        no_fault = told.no_fault;
        kind = told.kind;
        step = whichever q (may_step old new came);
        comes = λ pending. elim came [
          | inl steps ↦ stepped_or (StepsOn old.blocks.pending new.blocks.pending) (new.log.end ≢ old.log.end) q steps
          | inr waits ↦ unmoved (StepsOn old.blocks.pending new.blocks.pending) q (waits.1 pending)
        ];
        epoch = subst (λ (k : ℕ). AgesBy 1 old.log.epoch k) (sym told.epoch) ages;
        calm = λ empty. told.epoch ∙ ap (λ (l : LogEnd). l.epoch) (before.empty empty).0;
        runs = λ runs. told.runs (before.runs ∙ runs);
        refused = λ errno is. quiet (told.refused errno is);
        kept = IfErr-weaker q _ _ (λ e goes other. quiet (goes other)) told.kept;
        unlogged = λ is runs. absurd (not_both runs (told.stops is));
        stays = λ s served. and_so _ (ServesState new s) _ q (goes_on_unchanged m b n (OpensTo m s) (before.leaves s served)) told.kept (at s served).serves;
        done = λ s served. IfOk-weaker q _ _ (λ reply done. record {
          between = mid;
          served = (before.rest s served).serves;
          left = (before.rest s served).left;
          done = done;
          leaves = leaves_either s done.after served done.leaves;
        }) (at s served).done;
        broken = λ s served is.
            let broken = (at s served).broken is in
            record {
              reply = broken.reply;
              after = broken.after;
              need = broken.need;
              step = broken.step;
              leaves = leaves_either s broken.after served broken.leaves;
            };
        sure = sure;
        at_once = at_once;
        full = λ s served is.
            let full = (at s served).full is in
            (full.0, λ empty. let same = before.empty empty in full.1 (same_empty old mid same.0 same.1 empty), full.2);
        short = λ s served is.
            let short = (at s served).short is in
            (short.0, λ covered. short.1 (before.covered s covered));
        damaged = λ s served is. (at s served).damaged is;
      }
    where
      quiet : Goes Unchanged (meaning_of mid) (meaning_of new) → LogsNothing (meaning_of old) (meaning_of new)
      quiet goes = logged_twice (meaning_of old) (meaning_of mid) (meaning_of new) before.unlogged (nothing_logged (meaning_of mid) (meaning_of new) goes)

  -- the same of a call that isn't sure
  unsure : NotSure old call → (q : Result Reply CallError) (s : State) → ServesState old s → MatchResult q (λ _. IsSureOn old new s call ⊎ ¬ IsSure s call) (λ _. ¬ IsSure s call)
  unsure not_sure (Ok reply) s served = inr (not_sure.0 s (served_shows served))
  unsure not_sure (Err e) s served = not_sure.0 s (served_shows served)

  pub fulfilled_unsure : NotSure old call → (q : Result Reply CallError) → Handles mid new call q → ((s : State) (served : ServesState old s) → HandlesAt mid new s (before.rest s served).serves call q)
      → StepsOrWaits old new → Fulfils old new call q
  fulfilled_unsure not_sure q told at came = fulfilled q told at came (unsure not_sure q) (λ is. absurd (not_sure.1 is))

  -- the step's write failed
  pub not_stepped : NotSure old call → (e : PointError) → mid.log ≡ old.log → mid.blocks.pending ≢ None → Steps mid new (Err e) → ((s : State) → ServesState old s → WouldChange s call)
      → Fulfils old new call (Err NotWritten)
  not_stepped not_sure e log under stepped would =
      let m = meaning_of old in
      let b = meaning_of mid in
      let n = meaning_of new in
      record {
        counted = failed_first m n old.log.is_stopped (counted_beside m b n a_write before.counted stepped.counted);
        no_fault = tt;
        kind = tt;
        step = λ other. absurd (other refl);
        comes = λ pending. tt;
        epoch = subst (λ (k : ℕ). AgesBy 1 k new.log.epoch) (ap (λ (l : LogEnd). l.epoch) log) stepped.epoch;
        calm = λ empty. ap (λ (l : LogEnd). l.epoch) ((stepped.same under).0 ∙ log);
        runs = λ runs other. absurd (other refl);
        refused = λ errno is. cc;
        kept = λ other. absurd (other refl);
        unlogged = λ is runs. logged_twice m b n before.unlogged stepped.unlogged;
        stays = λ s served other. absurd (other refl);
        done = λ s served. tt;
        broken = λ s served is.
            let change = would s served in
            record {
              reply = change.reply;
              after = change.after;
              need = change.need;
              step = change.step;
              leaves = weaker m n (OpensTo m s) (λ c. OpensTo m s c ⊎ OpensTo m change.after c) (joined m b n (OpensTo m s) (before.leaves s served)
                  (weaker b n (OpensTo b s) (OpensTo m s) (stepped.leaves s.tree.descriptors s (before.rest s served).serves) (λ c here. opens_same m b s c before.counted.uses.same.sectors here)))
                  (λ c here. inl here);
            };
        sure = λ s served. not_sure.0 s (served_shows served);
        at_once = not_sure.1;
        full = λ s served is. cc;
        short = λ s served is. cc;
        damaged = λ s served is. cc;
      }

-- ---- a call that changes something

steps_so : {a b c d : Option PendingPoint} → b ≡ a → d ≡ c → StepsOn b c → StepsOn a d
steps_so {a} {b} {c} first last steps = subst (λ (o : Option PendingPoint). StepsOn a o) (sym last) (subst (λ (o : Option PendingPoint). StepsOn o c) first steps)

ages_so : {a b c d : ℕ} → b ≡ a → d ≡ c → AgesBy 1 b c → AgesBy 1 a d
ages_so {a} {b} {c} first last ages = subst (λ (n : ℕ). AgesBy 1 a n) (sym last) (subst (λ (n : ℕ). AgesBy 1 n c) first ages)

-- what a system keeps that only prepared a call
module _ {S : Type 0} {G : Ghosts S} {old mid : System S G} {call : Command} {r : Result PreparedCall Failure} (prepares : PreparesOn old mid call r) where
  same_log : mid.log ≡ old.log
  same_log = ap (λ (k : Parts). k.log) prepares.parts

  same_laid : mid.blocks.pending ≡ old.blocks.pending
  same_laid = (reads_on prepares.prepares.looks.reads).pending

-- What was prepared was done, and this is known of that.
pub record IsDone {S : Type 0} {G : Ghosts S} (mid new : System S G) (call : Command) (p : PreparedCall) (q : Result Reply CallError) : Type 0 where
  pub frame : Handles mid new call q
  pub told : (s : State) (served : ServesState mid s) → IsPreparedAt (system_parts mid) (blocks_of (disk_of mid)) served.running call p → HandlesAt mid new s served call q

module _ {S : Type 0} {G : Ghosts S} (old : System S G) (call : Command) (not_sure : NotSure old call) where
  done_so : {mid : System S G} (new : System S G) {p : PreparedCall} (q : Result Reply CallError) → IsPreparedBehind old mid call p → IsDone mid new call p q → AgesBy 1 old.log.epoch mid.log.epoch
      → StepsOrWaits old new → Fulfils old new call q
  done_so new q prepared done ages came =
      fulfilled_unsure new call prepared.before ages not_sure q done.frame (λ s served. done.told s (prepared.before.rest s served).serves (prepared.at s served)) came

  module _ {mid : System S G} {p : PreparedCall} (opens : AllOpen old) (prepares : PreparesOn old mid call (Ok p)) where
    abbrev behind : IsPreparedBehind old mid call p
    behind = prepared_by opens prepares

    -- without a step, since it logs nothing, or none is due
    pub done_now : (new : System S G) (q : Result Reply CallError) → IsDone mid new call p q → (new.log ≡ mid.log) ⊎ (mid.blocks.pending ≡ None) → Fulfils old new call q
    done_now new q done why =
        let pending = same_laid prepares in
        done_so new q behind done (same_age old.log.epoch mid.log.epoch (ap (λ (l : LogEnd). l.epoch) (same_log prepares)))
        (inr (
          done.frame.pending ∙ pending,
          λ some. elim why [
            | inl log ↦ ap (λ (l : LogEnd). l.end) (log ∙ same_log prepares)
            | inr none ↦ absurd (some (sym pending ∙ none))
          ],
        ))

    -- behind a slice
    pub done_sliced : (next new : System S G) (u : Unit {0}) (q : Result Reply CallError) → mid.blocks.pending ≢ None → Steps mid next (Ok u) → StaysReady mid next (Ok u) → IsDone next new call p q
        → Fulfils old new call q
    done_sliced next new u q under stepped ready done =
        done_so new q (prepared_sliced next u behind under stepped ready) done (ages_so (ap (λ (l : LogEnd). l.epoch) (same_log prepares)) refl stepped.epoch)
        (inl (steps_so (same_laid prepares) done.frame.pending stepped.pending))

    -- the slice's write failed
    pub done_never : (new : System S G) (e : PointError) → mid.blocks.pending ≢ None → (p.change ≢ None) → Steps mid new (Err e) → Fulfils old new call (Err NotWritten)
    done_never new e under some stepped =
        not_stepped new call behind.before (same_age old.log.epoch mid.log.epoch (ap (λ (l : LogEnd). l.epoch) (same_log prepares))) not_sure e (same_log prepares) under stepped (would_change behind some)

    -- behind a plan, for which it was prepared anew
    module _ (next : System S G) (u : Unit {0}) (due : IsPlanDue mid) (stepped : Steps mid next (Ok u)) (seen : (s : State) → ServesState mid s → MayLeave (meaning_of mid) (meaning_of mid).seen)
        (opens_then : AllOpen next) where
      before : IsBefore old next
      before = both behind.before (planned_before mid next u due stepped seen)

      pub done_anew : {last : System S G} {other : PreparedCall} → PreparesOn next last call (Ok other) → (new : System S G) (q : Result Reply CallError) → IsDone last new call other q → Fulfils old new call q
      done_anew anew new q done =
          done_so new q (prepared_after _ before (prepared_by opens_then anew)) done
          (ages_so (ap (λ (l : LogEnd). l.epoch) (same_log prepares)) (ap (λ (l : LogEnd). l.epoch) (same_log anew)) stepped.epoch)
          (inl (steps_so (same_laid prepares) (done.frame.pending ∙ same_laid anew) stepped.pending))

      pub refused_anew : (new : System S G) (r : Result Reply BlockError) → Answers next new call r → Fulfils old new call (called r)
      refused_anew new r told =
          fulfilled_unsure new call before (ages_so (ap (λ (l : LogEnd). l.epoch) (same_log prepares)) refl stepped.epoch) not_sure (called r) (handled r told)
          (λ s served. handled_at opens_then r told s (before.rest s served).serves) (inl (steps_so (same_laid prepares) (handled r told).pending stepped.pending))

-- a call that logs nothing was served at once
pub answered_fulfils : {S : Type 0} {G : Ghosts S} (old new : System S G) (call : Command) → AllOpen old → (r : Result Reply BlockError) → Answers old new call r → Fulfils old new call (called r)
answered_fulfils old new call opens r told =
    let handles = handled r told in
    fulfilled new call (nothing_before old opens) (same_age old.log.epoch old.log.epoch refl) (called r) handles (handled_at opens r told)
    (inr (handles.pending, λ _. ap (λ (k : Parts). k.log.end) told.parts)) (surely_called r told) (called_at_once r told)
