-- What a file system promises of a command, by the way that it is answered.
use Rattle.std.proofs.Common.{◌≡◌, ◌≢◌, ◌⊎◌, inl, inr, ℕ, ◌+◌, ◌<◌, ◌≤◌, ◌^◌, Bool, false, Result, Ok, Err, refl, ap, sym, subst, ◌∙◌, arith}
use Rattle.std.specs.Prelude.{IsErrOf, IsFalse, IsTrue}
use Rattle.std.proofs.lemmas.Bool.{cases_lt, false≢true}
use Rattle.station.specs.Moments.{EachCut, Meaning}
use Rattle.station.specs.declared.station.Station.{Ghosts}
use Rattle.station.proofs.Calls.{uses_none, uses_twice}
use Rattle.station.proofs.Moments.{same_none, unchanged_none}
use Rattle.model.specs.declared.costs.Costs.{Costs}
use Rattle.model.specs.Circumstances.{IsShortFor, IsSure}
use Rattle.model.specs.Replies.{IsReplyTo}
use Rattle.model.specs.Room.{Room, cost, headroom, logs}
use Rattle.model.specs.States.{State}
use Rattle.model.specs.declared.command.Command.{Command}
use Rattle.model.specs.declared.errno.Errno.{Errno}
use Rattle.model.specs.declared.errno.Errno.TheVariants.{EIO, ENOSPC, FAILED}
use Rattle.model.specs.declared.reply.Reply.{Reply}
use Rattle.model.specs.declared.reply.Reply.TheVariants.{Refused}
use Rattle.system.specs.Counting.{AgesBy, Counted, Failed, LogsNothing, beside_reads, call_error_failed, perhaps_reads}
use Rattle.system.specs.Images.{OpensTo}
use Rattle.system.specs.Serving.{HasEmptyLog, ServesState}
use Rattle.dispatch.specs.Serving.{IsCall, LacksRoom}
use Rattle.system.specs.CheckpointCommands.{IsRoomOf}
use Rattle.system.specs.Room.{costs_on}
use Rattle.dispatch.specs.Fulfilling.{Fulfils}
use Rattle.system.specs.Systems as systems
use Rattle.system.specs.declared.error.CallError.{CallError}
use Rattle.system.specs.declared.error.CallError.TheVariants as failure
use Rattle.system.specs.declared.system.System.{System}
use Rattle.system.proofs.CountingLaws.{logged_twice, none_logged}
use Rattle.mount.specs.Applying.{AnswersCommand, Attempts, IsAppliedAt, KeepsStates, MakesRoom}
use Rattle.mount.specs.Refusals.{errno_of_call, fails_call}
use Rattle.mount.specs.Systems.{HasGenerations, HasPoints, Serves, mounted}
use Rattle.mount.specs.declared.fs.Fs.{Fs}
use Rattle.mount.proofs.AttemptLemmas.{after_stay, answered_as, called, not_answered, short, stays_by, stays_read, still_going}
use Rattle.mount.proofs.CountLemmas.{call_eio, call_not_failed, call_refuses, call_written, failed_after, refused_same}
use Rattle.mount.proofs.LogLemmas.{LogsOf, call_logs, refused_logs}

-- an epoch that stays, and one behind the next
pub ages_same : (n old new : ℕ) → new ≡ old → AgesBy n old new
ages_same n old new is = record { ages = omega (arith, is); lasts = omega (arith, is) }

pub ages_more : (n j k old mid new : ℕ) → j + k ≤ n → AgesBy j old mid → AgesBy k mid new → AgesBy n old new
ages_more n j k old mid new le one two =
    record { ages = omega (arith, one.ages, two.ages); lasts = omega (arith, le, one.lasts, two.lasts) }

pub ages_within : (n k old new : ℕ) → k ≤ n → AgesBy k old new → AgesBy n old new
ages_within n k old new le one = record { ages = one.ages; lasts = omega (arith, le, one.lasts) }

-- whether a write failed or not
off_or_not : (P : Type 0) (e : CallError) → (e ≢ failure.NotWritten → P) → (e ≡ failure.NotWritten → P) → P
off_or_not P failure.NotWritten other off = off refl
off_or_not P e other off = other (λ is. cc)

lasts_left : (n j k old mid : ℕ) → j + k ≤ n → old ≤ mid → mid ≤ old + j → 1 ≤ old → old + n ≤ 2 ^ 62 → (1 ≤ mid) × (mid + k ≤ 2 ^ 62)
lasts_left n j k old mid le ages one first young = (omega (arith, ages, first), omega (arith, le, one, young))

points_left : (n j k old mid : ℕ) → j + k ≤ n → mid ≤ old + j → old + n ≤ 2 ^ 62 → mid + k ≤ 2 ^ 62
points_left n j k old mid le one young = omega (arith, le, one, young)

module _ {S : Type 0} {G : Ghosts S} (n : ℕ) (P : State → Type 0) (old new : Fs S G) (command : Command) where
  abbrev before : Meaning
  before = systems.meaning_of old.system

  abbrev behind : Meaning
  behind = systems.meaning_of new.system

  abbrev AppliedWith : Reply → Type 0
  AppliedWith reply = (s : State) → Serves (mounted old s) → HasPoints n old → P s → IsAppliedAt old s new command reply

  -- a call was answered
  pub attempted : (reply : Reply) → AgesBy n old.system.log.epoch new.system.log.epoch → Attempts old new command (Ok reply) → AnswersCommand n P old new command reply
  attempted reply ages made = record {
    kind = made.kind;
    uses = made.counted.uses;
    eio = λ is. absurd (made.no_fault.0 is);
    written = λ _. made.counted.writes;
    unlogged = λ errno is other. made.refused errno (ap Ok is);
    logs = λ s serves p accepted served. made.logs s served;
    fails = λ lasts stopped. absurd (false≢true (sym made.going ∙ stopped));
    failed = λ lasts is. absurd (made.no_fault.1 is);
    epoch = ages;
    still = λ s serves p sure. made.sure s serves sure;
    applied = λ s serves young p. made.applied s serves;
  }

  -- one wasn't
  pub not_attempted : (e : CallError) (errno : Errno) → errno ≡ errno_of_call e → AgesBy n old.system.log.epoch new.system.log.epoch → Attempts old new command (Err e)
      → ((s : State) → Serves (mounted old s) → P s → IsAppliedAt old s new command (Refused (errno_of_call e))) → AnswersCommand n P old new command (Refused errno)
  not_attempted e errno is ages made applied = record {
    kind = tt;
    uses = made.counted.uses;
    eio = λ same. call_eio before behind e made.counted (sym is ∙ refused_same same);
    written = λ why. call_written before behind e made.counted (elim why [
      | inl other ↦ call_refuses e (λ fault. other (ap Refused (is ∙ fault)))
      | inr runs_on ↦ λ fault. false≢true (sym runs_on ∙ made.failed (ap (λ y. Err y) fault))
    ]);
    unlogged = λ x same why. elim why [
      | inl other ↦ made.kept (call_refuses e (λ fault. other (sym (refused_same same) ∙ is ∙ fault)))
      | inr runs_on ↦ off_or_not (LogsNothing before behind) e made.kept (λ fault. made.unlogged (ap (λ y. Err y) fault) runs_on)
    ];
    logs = refused_logs P old new command errno;
    fails = λ lasts stopped. inr (ap Refused (is ∙ off_or_not (errno_of_call e ≡ EIO) e (λ other. absurd (false≢true (sym (made.going other) ∙ stopped))) (λ fault. ap errno_of_call fault)));
    failed = λ lasts same. absurd (call_not_failed e (sym is ∙ refused_same same));
    epoch = ages;
    still = λ s serves p sure. absurd (made.sure s serves sure);
    applied = λ s serves young p. answered_as old new s command (errno_of_call e) errno is (applied s serves p);
  }

  -- a consistency point wasn't made that had to come first
  pub no_room : (errno : Errno) → 1 ≤ n → MakesRoom old new (Err errno) → ((s : State) → P s → ¬ IsSure s command) → AnswersCommand n P old new command (Refused errno)
  no_room errno le made needs = record {
    kind = tt;
    uses = made.uses;
    eio = λ is. made.eio (ap (λ e. Err e) (refused_same is));
    written = λ why. made.written (elim why [ inl other ↦ inl (λ is. other (ap Refused is)) | inr runs_on ↦ inr runs_on ]);
    unlogged = λ x is other. made.unlogged;
    logs = refused_logs P old new command errno;
    fails = λ lasts stopped. inr (ap Refused (told_errno (made.fails (lasts.0, points_one n old.system.log.epoch le lasts.1) stopped)));
    failed = λ lasts is. absurd (made.failed (lasts.0, points_one n old.system.log.epoch le lasts.1) (ap (λ e. Err e) (refused_same is)));
    epoch = ages_within n 1 old.system.log.epoch new.system.log.epoch le made.epoch;
    still = λ s serves p sure. absurd (needs s p sure);
    applied = λ s serves young p. made.applied command s serves (points_one n old.system.log.epoch le young) (needs s p);
  }
    where
      points_one : (n a : ℕ) → 1 ≤ n → a + n ≤ 2 ^ 62 → a + 1 ≤ 2 ^ 62
      points_one n a le young = omega (arith, le, young)

      told_errno : {x y : Errno} → IsErrOf {T = Unit {0}} (Err x) y → x ≡ y
      told_errno is = cc

-- no device was called, and nothing changed
module _ {S : Type 0} {G : Ghosts S} (n : ℕ) (P : State → Type 0) (f : Fs S G) (command : Command) where
  pub at_once : (reply : Reply) → IsReplyTo command reply → reply ≢ Refused EIO → (reply ≡ Refused FAILED → IsTrue f.has_failed) → LogsOf P f f command reply
      → ((s : State) → Serves (mounted f s) → HasPoints n f → P s → IsAppliedAt f s f command reply) → AnswersCommand n P f f command reply
  at_once reply kind own failed logging applied = record {
    kind = kind;
    uses = uses_none (systems.meaning_of f.system);
    eio = λ is. absurd (own is);
    written = λ _. refl;
    unlogged = λ errno is other. none_logged (systems.meaning_of f.system);
    logs = logging;
    fails = λ lasts stopped. inl stopped;
    failed = λ lasts is. failed is;
    epoch = ages_same n f.system.log.epoch f.system.log.epoch refl;
    still = λ s serves p sure. refl;
    applied = applied;
  }

-- what a system has no room for it is short for, where its root covers all
pub short_by : {S : Type 0} {G : Ghosts S} (f : System S G) (s : State) (command : Command) → LacksRoom f s command
    → (room : Room) → IsRoomOf f room → IsShortFor room s command
short_by f s command lacks room is = (
  lacks.reply,
  lacks.after,
  logs lacks.work,
  lacks.step room,
  (
    is.covered,
    let costs = costs_on f in
        elim (cases_lt f.free (f.pledged + cost costs lacks.work + costs.point + headroom costs lacks.work)) [
          | inl few ↦ subst (λ (c : Costs). room.free < room.pledged + cost c lacks.work + c.point + headroom c lacks.work) (sym is.costs) (omega (arith, few, is.free, is.pledged))
          | inr enough ↦ absurd (lacks.short enough)
        ],
  ),
)

-- a call on a covered system that wasn't answered
pub checkpoint_applied : {S : Type 0} {G : Ghosts S} (old new : Fs S G) (call : Command) (e : CallError) → Attempts old new call (Err e) → IsFalse old.has_failed → HasEmptyLog old.system
    → (s : State) → Serves (mounted old s) → systems.IsCovered old.system s.tree.descriptors s → IsAppliedAt old s new call (Refused (errno_of_call e))
checkpoint_applied old new call failure.NoRoom made runs empty s serves covered =
    let waits = made.waits s serves (inl refl) in
    let lacks = made.short s serves refl in
    short old new s serves runs call waits.1.not_sure waits.0 (lacks.1 covered) made.counted.uses.reads made.counted.writes (short_by new.system s call lacks.0)
checkpoint_applied old new call failure.LogFull made runs empty s serves covered = absurd (made.fits s serves refl empty)
checkpoint_applied old new call e made runs empty s serves covered = made.applied s serves (λ is. cc) (λ is. cc)

-- a covered system has no room for a command, and no device is called
pub no_room_left : {S : Type 0} {G : Ghosts S} (n : ℕ) (P : State → Type 0) (f : Fs S G) (command : Command) → IsFalse f.has_failed
    → ((s : State) → ServesState f.system s → EachCut (systems.meaning_of f.system) (OpensTo (systems.meaning_of f.system) s))
    → ((s : State) → Serves (mounted f s) → P s → ¬ IsSure s command)
    → ((s : State) → Serves (mounted f s) → P s → systems.IsCovered f.system s.tree.descriptors s)
    → ((s : State) → Serves (mounted f s) → P s
    → (room : Room) → IsRoomOf f.system room → IsShortFor room s command)
    → AnswersCommand n P f f command (Refused ENOSPC)
no_room_left n P f command runs opens not_sure covered is_short =
    at_once n P f command (Refused ENOSPC) tt (λ is. cc) (λ is. cc) (refused_logs P f f command ENOSPC) (λ s serves young p.
    let here = serves.kept (still_going f s serves runs) in
    short f f s serves runs command (not_sure s serves p)
    (stays_read f f s serves runs (same_none (systems.meaning_of f.system)) runs here (unchanged_none (systems.meaning_of f.system)) (opens s here)) (covered s serves p) (inl refl) refl (is_short s serves p))

-- a command behind what left each state as it was, with no device call where the command is sure
pub behind_still : {S : Type 0} {G : Ghosts S} (n j k : ℕ) (P Q : State → Type 0) (old mid new : Fs S G) (command : Command) (reply : Reply) → j + k ≤ n → IsFalse old.has_failed → KeepsStates j old mid
    → AnswersCommand k Q mid new command reply → LogsOf P old new command reply → ((s : State) → Serves (mounted old s) → P s → Q s)
    → ((s : State) → Serves (mounted old s) → P s → IsSure s command → mid.system.blocks.buffers.station ≡ old.system.blocks.buffers.station) → AnswersCommand n P old new command reply
behind_still n j k P Q old mid new command reply le runs keeps then logging leads still =
    let m = systems.meaning_of old.system in
    let i = systems.meaning_of mid.system in
    let l = systems.meaning_of new.system in
    let later = λ (lasts : HasGenerations n old).
    lasts_left n j k old.system.log.epoch mid.system.log.epoch le keeps.epoch.ages keeps.epoch.lasts lasts.0 lasts.1 in
    record {
      kind = then.kind;
      uses = uses_twice m i l keeps.counted.uses then.uses;
      eio = λ is. failed_after m i l keeps.counted.uses (then.eio is);
      written = λ other. then.written other ∙ keeps.counted.writes;
      unlogged = λ errno is other. logged_twice m i l keeps.unlogged (then.unlogged errno is other);
      logs = logging;
      fails = λ lasts stopped. elim (then.fails (later lasts) stopped) [
        | inl before ↦ absurd (false≢true (sym keeps.going ∙ before))
        | inr told ↦ inr told
      ];
      failed = λ lasts is. absurd (false≢true (sym keeps.going ∙ then.failed (later lasts) is));
      epoch = ages_more n j k old.system.log.epoch mid.system.log.epoch new.system.log.epoch le keeps.epoch then.epoch;
      still = λ s serves p sure. then.still s (keeps.stays s serves).serves (leads s serves p) sure ∙ still s serves p sure;
      applied = λ s serves young p.
          let stays = keeps.stays s serves in
          after_stay old mid new s command reply serves runs stays then.uses keeps.counted.uses.reads keeps.counted.writes
          (then.applied s stays.serves (points_left n j k old.system.log.epoch mid.system.log.epoch le keeps.epoch.lasts young) (leads s serves p));
    }

-- a command that isn't sure
pub behind_that : {S : Type 0} {G : Ghosts S} (n j k : ℕ) (P Q : State → Type 0) (old mid new : Fs S G) (command : Command) (reply : Reply) → j + k ≤ n → IsFalse old.has_failed → KeepsStates j old mid
    → AnswersCommand k Q mid new command reply → LogsOf P old new command reply → ((s : State) → Serves (mounted old s) → P s → Q s) → ((s : State) → Serves (mounted old s) → P s → ¬ IsSure s command)
    → AnswersCommand n P old new command reply
behind_that n j k P Q old mid new command reply le runs keeps then logging leads not_sure =
    behind_still n j k P Q old mid new command reply le runs keeps then logging leads (λ s serves p sure. absurd (not_sure s serves p sure))

-- the same, of a command and a reply in other words
pub answers_so : {S : Type 0} {G : Ghosts S} (n : ℕ) (P : State → Type 0) (old new : Fs S G) (x y : Command) (reply : Reply) → y ≡ x → AnswersCommand n P old new x reply → AnswersCommand n P old new y reply
answers_so n P old new x y reply is then = subst (λ (c : Command). AnswersCommand n P old new c reply) (sym is) then

-- ---- calls of a system

abbrev pub AllOpen : {S : Type 0} {G : Ghosts S} → System S G → Type 0
AllOpen f = (t : State) → ServesState f t → EachCut (systems.meaning_of f) (OpensTo (systems.meaning_of f) t)

-- an error that isn't of a write fails no system
fails_none : (e : CallError) → e ≢ failure.NotWritten → fails_call e ≡ false
fails_none failure.NotWritten other = absurd (other refl)
fails_none e other = refl

-- and that of a write does
fails_by : (r : Result Reply CallError) (e : CallError) → r ≡ Err e → r ≡ Err failure.NotWritten → IsTrue (fails_call e)
fails_by r e is fault = subst (λ (x : CallError). IsTrue (fails_call x)) (sym (let it : e ≡ failure.NotWritten = cc in it)) refl

-- a call that waits wrote nothing
waits_written : (e : CallError) → (e ≡ failure.NoRoom) ⊎ (e ≡ failure.LogFull) → e ≢ failure.NotWritten
waits_written e (inl room) fault = cc
waits_written e (inr full) fault = cc

-- and of its device calls none failed but reads
waits_counted : (e : CallError) → (e ≡ failure.NoRoom) ⊎ (e ≡ failure.LogFull) → beside_reads (call_error_failed false e) ≡ perhaps_reads
waits_counted e (inl room) = ap (λ (x : CallError). beside_reads (call_error_failed false x)) room
waits_counted e (inr full) = ap (λ (x : CallError). beside_reads (call_error_failed false x)) full

module _ {S : Type 0} {G : Ghosts S} (old new : Fs S G) (call : Command) (runs : IsFalse old.has_failed) where
  abbrev served : (s : State) → Serves (mounted old s) → ServesState old.system s
  served s serves = serves.kept (still_going old s serves runs)

  -- one that was answered
  pub attempts : (reply : Reply) → IsCall call → Fulfils old.system new.system call (Ok reply) → IsFalse new.has_failed → AllOpen new.system → Attempts old new call (Ok reply)
  attempts reply is_call told runs_on opens = record {
    counted = told.counted;
    no_fault = told.no_fault;
    kind = told.kind;
    refused = told.refused;
    kept = tt;
    unlogged = λ is. cc;
    epoch = told.epoch;
    calm = told.calm;
    sure = λ s serves sure. elim (told.sure s (served s serves)) [ inl on ↦ on.still | inr not ↦ absurd (not sure) ];
    at_once = told.at_once;
    applied = λ s serves.
        called old new s serves runs told.counted.uses.same call reply is_call (elim (told.sure s (served s serves)) [ inl on ↦ inl on.sure | inr not ↦ inr not ]) runs_on
        told.counted.uses.reads told.counted.writes (told.done s (served s serves)) opens;
    logs = λ s served. call_logs old.system new.system s served call reply (told.done s served);
    going = runs_on;
    failed = λ is. cc;
    waits = λ s serves. tt;
    fits = λ s serves is. cc;
    short = λ s serves is. cc;
  }

  -- one that wasn't
  pub attempts_not : (e : CallError) → Fulfils old.system new.system call (Err e) → IsFalse old.system.log.is_stopped → new.has_failed ≡ fails_call e → Attempts old new call (Err e)
  attempts_not e told not_stopped flag =
      let counted = subst (λ (b : Bool). Counted (systems.meaning_of old.system) (systems.meaning_of new.system) (beside_reads (call_error_failed b e))) not_stopped told.counted in
      record {
        counted = counted;
        no_fault = tt;
        kind = tt;
        refused = λ errno is. cc;
        kept = told.kept;
        unlogged = told.unlogged;
        epoch = told.epoch;
        calm = told.calm;
        sure = λ s serves sure. told.sure s (served s serves) sure;
        at_once = told.at_once;
        applied = λ s serves room full.
            not_answered old new s serves runs call e (told.sure s (served s serves)) room full flag counted
            (λ is. told.damaged s (served s serves) (ap (λ x. Err x) is)) (told.stays s (served s serves)) (λ is. told.broken s (served s serves) (ap (λ x. Err x) is));
        logs = λ s served. tt;
        going = λ other. flag ∙ fails_none e other;
        failed = λ is. flag ∙ fails_by (Err e) e refl is;
        waits = λ s serves is.
            let here = served s serves in
            let other = waits_written e is in
            let kept = told.stays s here other in (
              stays_by old new s serves runs counted.uses.same (flag ∙ fails_none e other) kept.0 kept.1,
              record {
                not_sure = told.sure s here;
                waits = elim is [ inl room ↦ inl (told.short s here (ap (λ x. Err x) room)).0 | inr full ↦ inr (told.full s here (ap (λ x. Err x) full)).2 ];
              },
            );
        fits = λ s serves is. (told.full s (served s serves) is).1;
        short = λ s serves is. told.short s (served s serves) is;
      }

-- a call that waits for a consistency point left each state as it was
pub waiting_keeps : {S : Type 0} {G : Ghosts S} (old new : Fs S G) (call : Command) (e : CallError) → (e ≡ failure.NoRoom) ⊎ (e ≡ failure.LogFull) → Attempts old new call (Err e) → KeepsStates 1 old new
waiting_keeps old new call e is made = record {
  counted = subst (λ (why : Failed). Counted (systems.meaning_of old.system) (systems.meaning_of new.system) why) (waits_counted e is) made.counted;
  unlogged = made.kept (waits_written e is);
  epoch = made.epoch;
  going = made.going (waits_written e is);
  stays = λ s serves. (made.waits s serves is).0;
}
