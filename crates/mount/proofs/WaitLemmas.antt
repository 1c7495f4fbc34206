-- What a command comes to that may wait.
use Rattle.std.proofs.Common.{◌≡◌, ◌≢◌, ◌⊎◌, inl, inr, Bool, true, false, ℕ, Option, Some, None, Result, Ok, Err, refl, ap, sym, subst, ◌∙◌}
use Rattle.std.specs.Prelude.{IsFalse}
use Rattle.std.proofs.lemmas.Bool.{false≢true}
use Rattle.station.specs.Moments.{EachCut, HasGrown, Meaning}
use Rattle.station.specs.declared.station.Station.{Ghosts}
use Rattle.model.specs.Circumstances.{Allowed, Circumstances, IsExcused, IsSure}
use Rattle.model.specs.Room.{Room}
use Rattle.model.specs.Runs.{Leads}
use Rattle.model.specs.States.{State}
use Rattle.model.specs.Trees.{Description}
use Rattle.model.specs.declared.command.Command.{Command}
use Rattle.model.specs.declared.errno.Errno.{Errno}
use Rattle.model.specs.declared.errno.Errno.TheVariants.{DAMAGED, EIO, ENOMEM, FAILED}
use Rattle.model.specs.declared.reply.Reply.{Reply}
use Rattle.model.specs.declared.reply.Reply.TheVariants.{Refused}
use Rattle.buffers.specs.Disks.{ReadsOn}
use Rattle.descriptors.specs.declared.table.Descriptors.{Descriptors}
use Rattle.oplog.specs.LogEnd.{LogEnd}
use Rattle.system.specs.Ahead.{HasStateAhead}
use Rattle.system.specs.Images.{OpensTo}
use Rattle.system.specs.Systems as systems
use Rattle.system.specs.Systems.{Parts}
use Rattle.system.specs.Waits.{Waits}
use Rattle.system.specs.declared.error.WaitError.{WaitError}
use Rattle.system.specs.declared.error.WaitError.TheVariants as wait
use Rattle.system.specs.declared.system.System.{System}
use Rattle.system.proofs.CountingLaws.{nothing_logged}
use Rattle.dispatch.specs.Serving.{IsAtOnce, IsCall, IsSureOn, stored_of}
use Rattle.dispatch.specs.Waiting.{WaitsBehind}
use Rattle.dispatch.proofs.StoredLaws.{holes_ahead, settled_tells, stored_tells}
use Rattle.mount.specs.Applying.{TellsOfFault}
use Rattle.mount.specs.Batching.{BetweenWaiting, IsShownNext, MayWait, Shows, TellsBlocks, meaning_of}
use Rattle.mount.specs.Refusals.{refusal_of_wait}
use Rattle.mount.specs.Systems.{mounted, shown_state}
use Rattle.mount.specs.declared.waiting.Waiting.{Waiting}
use Rattle.mount.proofs.ApplyLemmas.{allowed_by, no_room}
use Rattle.mount.proofs.AttemptLemmas.{allowed_call, came}
use Rattle.mount.proofs.CountLemmas.{refused_same}
use Rattle.mount.proofs.StationLemmas.{told}
use Rattle.mount.proofs.WaitingLemmas.{read_on, reads_uses, run_waits, run_waits_more, shown_going}

-- the same reply
some_same : {x y : Reply} → Some x ≡ Some y → x ≡ y
some_same is = cc

module _ {S : Type 0} {G : Ghosts S} where
  -- the room of a file system at a state that it shows: of it is told which blocks are stored
  abbrev room_shown : Waiting S G → Room
  room_shown w = record no_room { stored = stored_of w.fs.system }

  blocks_told : (w : Waiting S G) (s kept : State) → Shows w s kept → TellsBlocks (mounted w.fs s) (room_shown w)
  blocks_told w s kept shows =
      let f = w.fs.system in
      record { stored = stored_tells f; settled = settled_tells f; holes = holes_ahead f shows.ahead }

module _ {S : Type 0} {G : Ghosts S} (old new : Waiting S G) (mid : System S G) (command : Command) (runs : IsFalse old.fs.has_failed) (flag : new.fs.has_failed ≡ old.fs.has_failed)
    (is_call : IsCall command) (station : mid.blocks.buffers.station ≡ old.fs.system.blocks.buffers.station) (files : mid.files ≡ old.fs.system.files) (log : mid.log ≡ old.fs.system.log)
    (stays : (table : ℕ → Option Description) (s kept : State) → HasStateAhead old.fs.system old.records table s kept → HasStateAhead mid old.records table s kept)
    (opens : (s kept : State) → Shows old s kept → EachCut (meaning_of old) (OpensTo (meaning_of old) kept)) where
  abbrev before : Meaning
  before = meaning_of old

  abbrev behind : Meaning
  behind = meaning_of new

  same_meaning : systems.meaning_of mid ≡ before
  same_meaning = ap (λ (s : S). G.meaning s) station

  on : IsFalse new.fs.has_failed
  on = flag ∙ runs

  module _ {result : Result Reply WaitError} (told_so : WaitsBehind mid new.fs.system old.records new.records command result) where
    reads : ReadsOn before behind
    reads = subst (λ (m : Meaning). ReadsOn m behind) same_meaning told_so.reads

    epoch : new.fs.system.log.epoch ≡ old.fs.system.log.epoch
    epoch = ap (λ (k : Parts). k.log.epoch) told_so.parts ∙ ap (λ (l : LogEnd). l.epoch) log

    -- a system that shows a state goes on so
    shows_so : (s kept : State) (next : State) → Shows old s kept → HasStateAhead new.fs.system new.records next.tree.descriptors next kept → Shows new next kept
    shows_so s kept next shows ahead = record { honest = reads.same.honest.0 shows.honest; goes = on; ahead = ahead }

    leads_so : (s kept next : State) (reply : Reply) (c : Circumstances) → Shows old s kept → (after : Shows new next kept) → c.room ≡ room_shown new
        → TellsOfFault c.read_failed before.failed_reads behind.failed_reads → TellsOfFault c.write_failed before.failed_writes behind.failed_writes
        → Allowed c s command reply next → Leads shown_state BetweenWaiting (mounted old.fs s) (command, reply) (mounted new.fs next)
    leads_so s kept next reply c shows after room read write allowed = record {
      circumstances = c;
      between = record {
        goes_on = read_on old new reads shows.honest;
        reads = read;
        writes = write;
        stored = λ still. subst (λ (r : Room). TellsBlocks (mounted new.fs next) r) (sym room) (blocks_told new next kept after);
      };
      allowed = allowed;
    }

  decided : (s : State) → IsSureOn mid new.fs.system s command ⊎ ¬ IsSure s command → IsSure s command ⊎ ¬ IsSure s command
  decided s (inl is) = inl is.sure
  decided s (inr not) = inr not

  -- it was answered, and waits
  pub waits_answered : (reply : Reply) → WaitsBehind mid new.fs.system old.records new.records command (Ok reply) → MayWait old new command (Some reply)
  waits_answered reply it =
      let next : (s kept : State) → Shows old s kept → IsShownNext old new s kept command reply = λ s kept shows.
      let there = stays s.tree.descriptors s kept shows.ahead in
      let does = it.at s kept there in
      let after = shows_so it s kept does.next shows does.ahead in
      let count = told before.failed_reads behind.failed_reads (reads it).reads in
      let c = came count.0 false false (room_shown new) in
      record {
        next = does.next;
        shows = after;
        leads = leads_so it s kept does.next reply c shows after refl count.1 (reads it).writes
            (allowed_call s command count.0 (room_shown new) reply does.next (shown_going old s kept shows) is_call (decided s (it.sure s kept there)) (does.need, does.step (room_shown new) (stored_tells new.fs.system)));
      } in
      record {
        kind = it.kind;
        uses = reads_uses old new (reads it);
        eio = λ is. absurd (it.no_fault.0 (some_same is));
        written = (reads it).writes;
        unlogged = nothing_logged before behind (reads it).goes;
        epoch = epoch it;
        goes = flag;
        failed = λ stopped. absurd (false≢true (sym runs ∙ stopped));
        was_failed = λ is. absurd (it.no_fault.1 (some_same is));
        refused = λ errno is. it.refused errno (ap (λ r. Ok r) (some_same is));
        stays = λ is. cc;
        at_once = λ at runs. let now = it.at_once (subst (λ (d : Descriptors). IsAtOnce d command) (sym files) at) in (now.0 ∙ station, now.1);
        shows = next;
        goes_on = λ first s batches steps run going_on.
            let here = run.shows runs in
            let it_next = next run.last.state run.border.state here in
            run_waits_more old new (reads it) first s batches steps run runs flag opens command reply it_next.next it_next.shows it_next.leads;
      }

  -- a system that a call left as it was
  still_shows : (e : WaitError) (it : WaitsBehind mid new.fs.system old.records new.records command (Err e)) (s kept : State) → Shows old s kept → Shows new s kept
  still_shows e it s kept shows =
      shows_so it s kept s shows (subst (λ (w : Waits). HasStateAhead new.fs.system w s.tree.descriptors s kept) (sym it.kept) (it.at s kept (stays s.tree.descriptors s kept shows.ahead)))

  -- it can't wait
  waits_not : (e : WaitError) → WaitsBehind mid new.fs.system old.records new.records command (Err e) → MayWait old new command None
  waits_not e it = record {
    kind = tt;
    uses = reads_uses old new (reads it);
    eio = λ is. cc;
    written = (reads it).writes;
    unlogged = nothing_logged before behind (reads it).goes;
    epoch = epoch it;
    goes = flag;
    failed = λ stopped. absurd (false≢true (sym runs ∙ stopped));
    was_failed = λ is. cc;
    refused = λ errno is. cc;
    stays = λ is. it.kept;
    at_once = λ at runs. tt;
    shows = still_shows e it;
    goes_on = λ first s batches steps run going_on.
        run_waits old new (reads it) first s batches steps run runs flag opens (still_shows e it run.last.state run.border.state (run.shows runs));
  }

  -- it was refused for a cause
  cause_leads : (errno : Errno) (read memory : Bool) (e : WaitError) (it : WaitsBehind mid new.fs.system old.records new.records command (Err e)) (s kept : State) → (shows : Shows old s kept)
      → TellsOfFault read before.failed_reads behind.failed_reads → IsExcused (came read false memory (room_shown new)) s command (Refused errno)
      → Leads shown_state BetweenWaiting (mounted old.fs s) (command, Refused errno) (mounted new.fs s)
  cause_leads errno read memory e it s kept shows reads_so excused =
      let c = came read false memory (room_shown new) in
      leads_so it s kept s (Refused errno) c shows (still_shows e it s kept shows) refl reads_so (reads it).writes
      (allowed_by s command c (Refused errno) s (shown_going old s kept shows) (it.sure s kept (stays s.tree.descriptors s kept shows.ahead)) (inr (excused, refl)))

  waits_refused : (e : WaitError) (errno : Errno) → (it : WaitsBehind mid new.fs.system old.records new.records command (Err e))
      → (errno ≡ EIO → HasGrown before.failed_reads behind.failed_reads) → errno ≢ FAILED
      → ((s kept : State) → Shows old s kept → Leads shown_state BetweenWaiting (mounted old.fs s) (command, Refused errno) (mounted new.fs s)) → MayWait old new command (Some (Refused errno))
  waits_refused e errno it eio never leads = record {
    kind = tt;
    uses = reads_uses old new (reads it);
    eio = λ same. inl (eio (refused_same (some_same same)));
    written = (reads it).writes;
    unlogged = nothing_logged before behind (reads it).goes;
    epoch = epoch it;
    goes = flag;
    failed = λ stopped. absurd (false≢true (sym runs ∙ stopped));
    was_failed = λ same. absurd (never (refused_same (some_same same)));
    refused = λ x same. it.kept;
    stays = λ same. cc;
    at_once = λ at going_on. absurd (it.at_once (subst (λ (d : Descriptors). IsAtOnce d command) (sym files) at));
    shows = λ s kept shows. record { next = s; shows = still_shows e it s kept shows; leads = leads s kept shows };
    goes_on = λ first s batches steps run going_on.
        let here = run.shows runs in
        run_waits_more old new (reads it) first s batches steps run runs flag opens command (Refused errno) run.last.state
        (still_shows e it run.last.state run.border.state here) (leads run.last.state run.border.state here);
  }

  -- it wasn't done
  waits_undone : (e : WaitError) → WaitsBehind mid new.fs.system old.records new.records command (Err e) → MayWait old new command (refusal_of_wait e)
  waits_undone wait.NoMemory it = waits_refused wait.NoMemory ENOMEM it (λ is. cc) (λ is. cc) (λ s kept shows.
      let count = told before.failed_reads behind.failed_reads (reads it).reads in
      cause_leads ENOMEM count.0 true wait.NoMemory it s kept shows count.1 refl)
  waits_undone wait.NotRead it =
      let grown = subst (λ (m : Meaning). HasGrown m.failed_reads behind.failed_reads) same_meaning (it.fault refl) in
      waits_refused wait.NotRead EIO it (λ is. grown) (λ is. cc) (λ s kept shows. cause_leads EIO true false wait.NotRead it s kept shows grown refl)
  waits_undone wait.Damaged it = waits_refused wait.Damaged DAMAGED it (λ is. cc) (λ is. cc) (λ s kept shows. absurd (it.damaged s kept (stays s.tree.descriptors s kept shows.ahead) refl))
  waits_undone wait.PlanDue it = waits_not wait.PlanDue it
  waits_undone wait.NoRoom it = waits_not wait.NoRoom it
  waits_undone wait.LogFull it = waits_not wait.LogFull it

  pub waits_refused_so : (e : WaitError) (answer : Option Reply) → answer ≡ refusal_of_wait e → WaitsBehind mid new.fs.system old.records new.records command (Err e) → MayWait old new command answer
  waits_refused_so e answer is it = subst (λ (o : Option Reply). MayWait old new command o) (sym is) (waits_undone e it)
