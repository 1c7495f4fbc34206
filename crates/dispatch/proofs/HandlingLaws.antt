-- What a call comes to that a record is logged for.
use Rattle.std.proofs.Common.{◌≡◌, ◌≢◌, ◌⊎◌, inl, inr, ℕ, ◌+◌, ◌≤◌, [], ◌∷◌, ◌++◌, length, Result, Ok, Err, refl, ap, sym, subst, ◌∙◌, arith}
use Rattle.std.specs.Prelude.{IsFalse, IsTrue}
use Rattle.station.specs.Calls.{OnlyWrites}
use Rattle.station.specs.Images.{Unchanged}
use Rattle.station.specs.Moments.{Meaning, Goes}
use Rattle.station.specs.declared.station.Station.{Ghosts}
use Rattle.layout.specs.Record.{Change}
use Rattle.model.specs.Records.{work_of}
use Rattle.model.specs.Replies.{IsReplyTo}
use Rattle.model.specs.Room.{Work, logs}
use Rattle.model.specs.States.{State}
use Rattle.model.specs.declared.command.Command.{Command}
use Rattle.model.specs.declared.errno.Errno.TheVariants.{EIO, FAILED}
use Rattle.model.specs.declared.reply.Reply.{Reply}
use Rattle.model.specs.declared.reply.Reply.TheVariants.{Refused}
use Rattle.buffers.specs.Readings.{reads_none}
use Rattle.layout.specs.declared.root.Root.{Root}
use Rattle.oplog.specs.LogEnd.{LogEnd, HasRoomInHalf, logged_body, next_of}
use Rattle.system.specs.Counting.{Counted, Failed, call_error_failed, no_call, perhaps_reads}
use Rattle.system.specs.Room.{HasRoomForWork}
use Rattle.system.specs.Serving.{HasEmptyLog, LeavesEither, ServesState}
use Rattle.dispatch.specs.Serving.{Handles, HandlesAt, IsAccepted, WouldCall}
use Rattle.system.specs.Systems.{IsCovered, Parts, meaning_of, system_parts}
use Rattle.system.specs.declared.error.CallError.{CallError}
use Rattle.system.specs.declared.error.CallError.TheVariants as call_errors
use Rattle.system.specs.declared.system.System.{System}
use Rattle.system.proofs.CountingLaws.{all_read, all_written, not_written_yet, perhaps_read}
use Rattle.dispatch.proofs.ShowingLaws.{KeepsServing, ServesStill, same_still}

-- a covered one that looked, or has the same, is covered still
pub covered_same : {S : Type 0} {G : Ghosts S} {old : System S G} (new : System S G) (s : State) (covered : IsCovered old s.tree.descriptors s) → new.blocks.pending ≡ old.blocks.pending
    → ServesStill old new s covered.serves → IsCovered new s.tree.descriptors s
covered_same new s covered pending still = record {
  rests = pending ∙ covered.rests;
  serves = still.serves;
  no_record = still.bodies ∙ covered.no_record;
  held = still.first ∙ covered.held ∙ sym still.volume;
}

-- one with the same log over the same root has an empty log where the other has one
pub same_empty : {S : Type 0} {G : Ghosts S} (old new : System S G) → new.log ≡ old.log → new.root ≡ old.root → HasEmptyLog old → HasEmptyLog new
same_empty old new log root empty = record {
  epoch = ap (λ (l : LogEnd). l.epoch) log ∙ empty.epoch ∙ ap (λ (r : Root). r.generation + 1) (sym root);
  end = ap (λ (l : LogEnd). next_of l.end) log ∙ empty.end;
}

-- the record of a call fits an empty log
pub record_fits : {S : Type 0} {G : Ghosts S} (f : System S G) (change : Change) → HasEmptyLog f → length (logged_body change) ≤ 65565
    → (f.log.epoch ≢ f.root.generation + 1) ⊎ (HasRoomInHalf f.log (length (logged_body change)) → ⊥) → ⊥
record_fits f change empty short (inl not) = not empty.epoch
record_fits f change empty short (inr full) =
    let half : 131072 ≤ f.log.half = omega (arith, f.half, f.is_root.head.sizes.least_half) in
    let room : 9 + 5 + length (logged_body change) + 1 ≤ f.log.half = omega (arith, half, short) in
    full (subst (λ (n : ℕ). n + 5 + length (logged_body change) + 1 ≤ f.log.half) (sym empty.end) room)

-- no write failed before this one
abbrev pub IsFirstFault : LogEnd → CallError → Type 0
IsFirstFault log e = (e ≡ call_errors.NotWritten) × IsFalse log.is_stopped

pub error_is : (x y : CallError) (r q : Result Reply CallError) → r ≡ Err x → q ≡ Err y → r ≡ q → x ≡ y
error_is x y r q first second is = cc

ok_is : (x y : Reply) (r q : Result Reply CallError) → r ≡ Ok x → q ≡ Ok y → r ≡ q → x ≡ y
ok_is x y r q first second is = cc

-- ---- whatever the system serves

module _ {S : Type 0} {G : Ghosts S} (old new : System S G) (call : Command) (pending : new.blocks.pending ≡ old.blocks.pending) (epoch : new.log.epoch ≡ old.log.epoch) where
  -- the record is logged
  pub logged : {T : Type 0} (u : T) (reply : Reply) → IsReplyTo call reply → IsAccepted reply → OnlyWrites {T = T} {E = CallError} (IsFirstFault old.log) (meaning_of old) (meaning_of new) (Ok u)
      → new.log.is_stopped ≡ old.log.is_stopped → Handles old new call (Ok reply)
  logged {T = T} u reply kind accepted writes stopped = record {
    counted = all_written {T = T} {E = CallError} (IsFirstFault old.log) (meaning_of old) (meaning_of new) u writes;
    no_fault = (accepted EIO, accepted FAILED);
    kind = kind;
    pending = pending;
    epoch = epoch;
    runs = λ runs. stopped ∙ runs;
    stops = λ is. cc;
    refused = λ errno is. absurd (accepted errno (ok_is reply (Refused errno) (Ok reply) (Ok (Refused errno)) refl refl is));
    kept = tt;
  }

  -- it isn't
  pub not_logged : {T : Type 0} (e : CallError) → (e ≢ call_errors.NotRead) × (e ≢ call_errors.Damaged) → (e ≡ call_errors.NotWritten → IsTrue new.log.is_stopped)
      → OnlyWrites {T = T} {E = CallError} (IsFirstFault old.log) (meaning_of old) (meaning_of new) (Err e)
      → (e ≢ call_errors.NotWritten → (meaning_of new ≡ meaning_of old) × (new.log ≡ old.log)) → Handles old new call (Err e)
  not_logged {T = T} e own stops writes same = record {
    counted = counts e own writes same;
    no_fault = tt;
    kind = tt;
    pending = pending;
    epoch = epoch;
    runs = λ runs other. ap (λ (l : LogEnd). l.is_stopped) (same other).1 ∙ runs;
    stops = λ is. stops (error_is e call_errors.NotWritten (Err e) (Err call_errors.NotWritten) refl refl is);
    refused = λ errno is. cc;
    kept = λ other. subst (λ (n : Meaning). Goes Unchanged (meaning_of old) n) (sym (same other).0) (reads_none (meaning_of old)).goes;
  }
    where
      nothing_done : (why : Failed) → Counted (meaning_of old) (meaning_of old) why → meaning_of new ≡ meaning_of old → Counted (meaning_of old) (meaning_of new) why
      nothing_done why counts is = subst (λ (n : Meaning). Counted (meaning_of old) n why) (sym is) counts

      counts : (e : CallError) → (e ≢ call_errors.NotRead) × (e ≢ call_errors.Damaged) → OnlyWrites {T = T} {E = CallError} (IsFirstFault old.log) (meaning_of old) (meaning_of new) (Err e)
          → (e ≢ call_errors.NotWritten → (meaning_of new ≡ meaning_of old) × (new.log ≡ old.log)) → Counted (meaning_of old) (meaning_of new) (call_error_failed old.log.is_stopped e)
      counts call_errors.NotRead own writes same = absurd (own.0 refl)
      counts call_errors.Damaged own writes same = absurd (own.1 refl)
      counts call_errors.NotWritten own writes same =
          not_written_yet {T = T} {E = CallError} (IsFirstFault old.log) (meaning_of old) (meaning_of new) call_errors.NotWritten old.log.is_stopped writes (λ runs. (refl, runs))
      counts call_errors.NoMemory own writes same =
          nothing_done perhaps_reads (perhaps_read (meaning_of old) (meaning_of old) (reads_none (meaning_of old))) (same (λ is. cc)).0
      counts call_errors.LogFull own writes same = nothing_done no_call (all_read (meaning_of old) (meaning_of old) (reads_none (meaning_of old)) refl) (same (λ is. cc)).0
      counts call_errors.NoRoom own writes same = nothing_done no_call (all_read (meaning_of old) (meaning_of old) (reads_none (meaning_of old)) refl) (same (λ is. cc)).0

-- ---- at a state that it serves

-- What a call's record comes to.
pub record LeadsOn {S : Type 0} {G : Ghosts S} (old new : System S G) (s : State) (call : Command) (reply : Reply) : Type 0 where
  pub after : State
  pub work : Work
  pub step : WouldCall s call reply after (logs work)
  pub leaves : LeavesEither (meaning_of old) (meaning_of new) s after

module _ {S : Type 0} {G : Ghosts S} (old new : System S G) (s : State) (served : ServesState old s) (call : Command) (reply : Reply) (leads : LeadsOn old new s call reply) where
  -- the record is logged, and its change is in force
  pub logged_at : (change : Change) → leads.work ≡ work_of served.running change → HasRoomForWork old leads.work
      → (serves : ServesState new leads.after) × (serves.lasts.replayed.changes ≡ served.lasts.replayed.changes ++ change ∷ []) → HandlesAt old new s served call (Ok reply)
  logged_at change works room serves = record {
    serves = tt;
    done = record {
      after = leads.after;
      need = logs leads.work;
      step = λ any stored. leads.step any;
      room = room;
      serves = serves.0;
      logs = (change, works, serves.1);
      leaves = leads.leaves;
    };
    broken = λ is. cc;
    full = λ is. cc;
    short = λ is. cc;
    damaged = λ is. cc;
  }

  -- it isn't
  pub not_logged_at : (e : CallError) → (e ≢ call_errors.Damaged) → (e ≢ call_errors.NotWritten → (meaning_of new ≡ meaning_of old) × (system_parts new ≡ system_parts old))
      → (e ≡ call_errors.LogFull → HasEmptyLog old → ⊥) → (e ≡ call_errors.NoRoom → HasRoomForWork new leads.work → ⊥) → HandlesAt old new s served call (Err e)
  not_logged_at e own same fits lacks = record {
    serves = λ other. (still other s served).serves;
    done = tt;
    broken = λ is. record {
      reply = reply;
      after = leads.after;
      need = λ room. logs leads.work;
      step = leads.step;
      leaves = leads.leaves;
    };
    full = λ is.
        let full = error_is e call_errors.LogFull (Err e) (Err call_errors.LogFull) refl refl is in
        let parts = (same (λ written. two_reasons e call_errors.LogFull full written (λ both. cc))).1 in (
          record { reply = reply; after = leads.after; need = λ room. logs leads.work; step = leads.step; needs = λ room none. cc },
          fits full,
          λ empty. fits full (same_empty new old (ap (λ (k : Parts). k.log) (sym parts)) (ap (λ (k : Parts). k.root) (sym parts)) empty),
        );
    short = λ is.
        let room = error_is e call_errors.NoRoom (Err e) (Err call_errors.NoRoom) refl refl is in
        let other : e ≢ call_errors.NotWritten = λ written. two_reasons e call_errors.NoRoom room written (λ both. cc) in (
          record { reply = reply; after = leads.after; work = leads.work; step = leads.step; short = lacks room },
          λ covered. covered_same {old = old} new s covered (ap (λ (k : Parts). k.pending) (same other).1) (still other s covered.serves),
        );
    damaged = λ is. own (error_is e call_errors.Damaged (Err e) (Err call_errors.Damaged) refl refl is);
  }
    where
      still : (e ≢ call_errors.NotWritten) → KeepsServing old new
      still other = same_still old new (same other).0 (same other).1

      two_reasons : (e x : CallError) → e ≡ x → e ≡ call_errors.NotWritten → (x ≢ call_errors.NotWritten) → ⊥
      two_reasons e x is written not = not (sym is ∙ written)
