-- What a file system promises of commands that make consistency points.
use Rattle.std.proofs.Common.{◌≡◌, inl, inr, ℕ, ◌≤◌, Bool, true, false, Result, Ok, Err, refl, ap, sym, subst, ◌∙◌, arith}
use Rattle.std.specs.Prelude.{IsFalse}
use Rattle.std.proofs.lemmas.Bool.{false≢true}
use Rattle.station.specs.Moments.{Meaning}
use Rattle.station.specs.declared.station.Station.{Ghosts}
use Rattle.station.proofs.Moments.{leaves_unchanged, weaker}
use Rattle.model.specs.Circumstances.{IsSure}
use Rattle.model.specs.Replies.{IsReplyTo}
use Rattle.model.specs.Room.{nothing}
use Rattle.model.specs.Runs.{IsWithin}
use Rattle.model.specs.States.{State}
use Rattle.model.specs.declared.command.Command.{Command}
use Rattle.model.specs.declared.command.Command.TheVariants.{Sync}
use Rattle.model.specs.declared.errno.Errno.{Errno}
use Rattle.model.specs.declared.errno.Errno.TheVariants.{EIO, ENOSPC, FAILED}
use Rattle.model.specs.declared.reply.Reply.{Reply}
use Rattle.model.specs.declared.reply.Reply.TheVariants.{Done, Refused}
use Rattle.oplog.specs.LogEnd.{LogEnd, all_bodies}
use Rattle.system.specs.Counting.{Counted, call_error_failed, no_call}
use Rattle.system.specs.Images.{OpensTo}
use Rattle.system.specs.Serving.{IsNoFault, ServesState}
use Rattle.dispatch.specs.Serving.{WouldCall}
use Rattle.system.specs.CheckpointCommands.{Glances, MakesCovered, Checkpoints}
use Rattle.system.specs.Systems as systems
use Rattle.system.specs.declared.error.CallError.{CallError}
use Rattle.system.specs.declared.error.PointError.{PointError}
use Rattle.system.specs.declared.error.PointError.TheVariants.{NoGeneration}
use Rattle.system.proofs.CountingLaws.{nothing_logged, told_beside_reads}
use Rattle.mount.specs.Applying.{AnswersAlways, AnswersCommand, HasCheckpointed, KeepsStates, MakesRoom, Stays}
use Rattle.mount.specs.Refusals.{errno_of_call, errno_of_point, fails_point}
use Rattle.mount.specs.Systems.{HasGenerations, OpensToSome, Serves, mounted}
use Rattle.mount.specs.declared.fs.Fs.{Fs}
use Rattle.mount.specs.declared.fs.TheConstants.{POINTS}
use Rattle.mount.proofs.AttemptLemmas.{answered_as, cut_within, no_point, not_answered, own_refusal, reads_fail_nothing, settled, short, stays_by, stays_read, still_going, synced}
use Rattle.mount.proofs.ApplyLemmas.{no_room}
use Rattle.mount.proofs.CountLemmas.{call_eio, call_not_failed, call_written, next_lasts, point_eio, point_fails, point_not_failed, point_refuses, point_written, refused_same}
use Rattle.mount.proofs.LogLemmas.{covered_logs, logs_kept, refused_logs, checkpoint_logs}
use Rattle.mount.proofs.AnswerLemmas.{AllOpen, ages_same, ages_within, behind_still}

-- ---- a consistency point

module _ {S : Type 0} {G : Ghosts S} (old new : Fs S G) (runs : IsFalse old.has_failed) where
  abbrev first : Meaning
  first = systems.meaning_of old.system

  abbrev last : Meaning
  last = systems.meaning_of new.system

  held : (s : State) → Serves (mounted old s) → ServesState old.system s
  held s serves = serves.kept (still_going old s serves runs)

  -- one was made, or all was in the newest root
  pub makes_room : (u : Unit {0}) → MakesCovered old.system new.system (Ok u) → IsFalse new.has_failed → MakesRoom old new (Ok u)
  makes_room u told runs_on = record {
    uses = told.counted.uses;
    eio = λ is. cc;
    written = tt;
    unlogged = told.unlogged;
    fails = λ lasts stopped. absurd (false≢true (sym runs_on ∙ stopped));
    failed = λ lasts is. cc;
    epoch = told.epoch;
    made = record {
      keeps = record {
        counted = told_beside_reads first last no_call told.counted;
        unlogged = told.unlogged;
        epoch = told.epoch;
        going = runs_on;
        stays = λ s serves. stays_by old new s serves runs told.counted.uses.same runs_on (told.covered s (held s serves)).serves (told.leaves s (held s serves));
      };
      rests = told.rests;
      empty = told.empty;
      covered = λ s serves. told.covered s (held s serves);
    };
    applied = λ command s serves next needs. tt;
  }

  -- none was
  pub makes_none : (e : PointError) (errno : Errno) → errno ≡ errno_of_point e → MakesCovered old.system new.system (Err e) → new.has_failed ≡ fails_point e → MakesRoom old new (Err errno)
  makes_none e errno is told flag = record {
    uses = told.counted.uses;
    eio = λ same. point_eio first last e told.counted (sym is ∙ errno_same errno EIO (Err errno) (Err EIO) refl refl same);
    written = λ why. point_written first last e told.counted (elim why [
      | inl other ↦ point_refuses e (λ fault. other (is ∙ fault))
      | inr runs_on ↦ λ fault. false≢true (sym runs_on ∙ flag ∙ ap fails_point fault)
    ]);
    unlogged = told.unlogged;
    fails = λ lasts stopped. ap (λ (x : Errno). Err x) (is ∙ point_fails e (left lasts) (sym flag ∙ stopped));
    failed = λ lasts told_so. point_not_failed e (left lasts) (sym is ∙ errno_same errno FAILED (Err errno) (Err FAILED) refl refl told_so);
    epoch = told.epoch;
    made = tt;
    applied = λ command s serves next needs.
        let here = held s serves in
        let leaves = told.leaves s here in
        answered_as old new s command (errno_of_point e) errno is
        (no_point old new s serves runs command e needs next told.counted (λ x. told.roomy s here (ap (λ y. Err y) x))
        (λ x. told.last s here (ap (λ y. Err y) x)) (λ x. told.damaged s here (ap (λ y. Err y) x)) flag
        (λ refused runs_on. stays_by old new s serves runs told.counted.uses.same runs_on (told.refused s here refused) leaves)
        (λ x. weaker first last (OpensTo first s) (OpensToSome first (IsWithin s command)) leaves (λ i opens. (s, opens, inl refl))));
  }
    where
      left : HasGenerations 1 old → e ≡ NoGeneration → ⊥
      left lasts last = next_lasts 1 old.system.log.epoch (omega arith) lasts.0 lasts.1 (told.past (ap (λ y. Err y) last))

      errno_same : (x y : Errno) (r q : Result (Unit {0}) Errno) → r ≡ Err x → q ≡ Err y → r ≡ q → x ≡ y
      errno_same x y r q left right is = cc

-- behind it all is in the root, as `sync` promises
pub synced_by : {S : Type 0} {G : Ghosts S} (n : ℕ) (old new : Fs S G) (runs : IsFalse old.has_failed) → 1 ≤ n → HasCheckpointed old new → AnswersCommand n (λ s. Unit {0}) old new Sync Done
synced_by n old new runs le made = record {
  kind = tt;
  uses = made.keeps.counted.uses;
  eio = λ is. cc;
  written = λ _. made.keeps.counted.writes;
  unlogged = λ errno is. cc;
  logs = λ s serves p accepted served.
      let covered = made.covered s serves in
      covered_logs new.system s s Sync Done served.running (ap (λ (u : State). u.tree) served.state) no_room nothing (refl, refl, refl) (λ work is. cc) covered (all_bodies served.lasts.bodies);
  fails = λ lasts stopped. absurd (false≢true (sym made.keeps.going ∙ stopped));
  failed = λ lasts is. cc;
  epoch = ages_within n 1 old.system.log.epoch new.system.log.epoch le made.keeps.epoch;
  still = λ s serves p sure. absurd sure;
  applied = λ s serves young p. synced old new s serves runs (made.keeps.stays s serves) made.keeps.counted.uses.reads made.keeps.counted.writes (made.covered s serves);
}

-- ---- the tests of `snap take`

module _ {S : Type 0} {G : Ghosts S} (old new : Fs S G) (runs : IsFalse old.has_failed) (runs_on : IsFalse new.has_failed) (opens : AllOpen old.system) where
  kept_as : {T : Type 0} (r : Result T CallError) → Glances {T = T} old.system new.system r → (s : State) → (serves : Serves (mounted old s)) → Stays old new s
  kept_as r told s serves =
      let here = serves.kept (still_going old s serves runs) in
      stays_read old new s serves runs told.reads.same runs_on (told.serves s here).0 told.reads.goes (opens s here)

  same_epoch : {T : Type 0} (r : Result T CallError) → Glances {T = T} old.system new.system r → new.system.log.epoch ≡ old.system.log.epoch
  same_epoch r told = ap (λ (l : LogEnd). l.epoch) told.log

  -- they were read
  pub glance_keeps : {T : Type 0} (x : T) → Glances {T = T} old.system new.system (Ok x) → KeepsStates 0 old new
  glance_keeps {T = T} x told = record {
    counted = told_beside_reads (systems.meaning_of old.system) (systems.meaning_of new.system) no_call told.counted;
    unlogged = nothing_logged (systems.meaning_of old.system) (systems.meaning_of new.system) told.reads.goes;
    epoch = ages_same 0 old.system.log.epoch new.system.log.epoch (same_epoch {T = T} (Ok x) told);
    going = runs_on;
    stays = kept_as {T = T} (Ok x) told;
  }

  module _ (n : ℕ) (command : Command) (not_sure : (s : State) → ¬ IsSure s command) where
    -- and refuse the command
    pub glance_refuses : {T : Type 0} (x : T) (errno : Errno) → Glances {T = T} old.system new.system (Ok x) → IsNoFault errno
        → ((s : State) → ServesState old.system s → WouldCall s command (Refused errno) s nothing) → AnswersCommand n (λ s. Unit {0}) old new command (Refused errno)
    glance_refuses {T = T} x errno told own step = record {
      kind = tt;
      uses = told.counted.uses;
      eio = λ is. absurd (own.0 (refused_same is));
      written = λ _. told.counted.writes;
      unlogged = λ y is other. nothing_logged (systems.meaning_of old.system) (systems.meaning_of new.system) told.reads.goes;
      logs = refused_logs (λ s. Unit {0}) old new command errno;
      fails = λ lasts stopped. absurd (false≢true (sym runs_on ∙ stopped));
      failed = λ lasts is. absurd (own.1 (refused_same is));
      epoch = ages_same n old.system.log.epoch new.system.log.epoch (same_epoch {T = T} (Ok x) told);
      still = λ s serves p sure. absurd (not_sure s sure);
      applied = λ s serves young p.
          own_refusal old new s serves runs command (not_sure s) (kept_as {T = T} (Ok x) told s serves) errno told.counted.reads told.counted.writes (step s (serves.kept (still_going old s serves runs)));
    }

    -- or couldn't be
    pub glance_fails : {T : Type 0} (e : CallError) (errno : Errno) → errno ≡ errno_of_call e → Glances {T = T} old.system new.system (Err e) → IsFalse old.system.log.is_stopped
        → AnswersCommand n (λ s. Unit {0}) old new command (Refused errno)
    glance_fails {T = T} e errno is told not_stopped =
        let m = systems.meaning_of old.system in
        let l = systems.meaning_of new.system in
        let counted = told_beside_reads m l (call_error_failed false e) (subst (λ (b : Bool). Counted m l (call_error_failed b e)) not_stopped told.counted) in
        record {
          kind = tt;
          uses = counted.uses;
          eio = λ same. call_eio m l e counted (sym is ∙ refused_same same);
          written = λ _. call_written m l e counted told.refuses.2;
          unlogged = λ x same other. nothing_logged m l told.reads.goes;
          logs = refused_logs (λ s. Unit {0}) old new command errno;
          fails = λ lasts stopped. absurd (false≢true (sym runs_on ∙ stopped));
          failed = λ lasts same. absurd (call_not_failed e (sym is ∙ refused_same same));
          epoch = ages_same n old.system.log.epoch new.system.log.epoch (same_epoch {T = T} (Err e) told);
          still = λ s serves p sure. absurd (not_sure s sure);
          applied = λ s serves young p.
              let here = serves.kept (still_going old s serves runs) in
              answered_as old new s command (errno_of_call e) errno is
              (not_answered old new s serves runs command e (not_sure s) told.refuses.0 told.refuses.1 (reads_fail_nothing e new.has_failed told.refuses.2 runs_on) counted
              (λ x. told.damaged s here (ap (λ y. Err y) x)) (λ _. ((told.serves s here).0, leaves_unchanged m l (OpensTo m s) (opens s here) told.reads.goes)) (λ x. absurd (told.refuses.2 x)));
        }

-- ---- commands that change the snapshots, behind their tests

module _ {S : Type 0} {G : Ghosts S} (P : State → Type 0) (old new : Fs S G) (command : Command) (runs : IsFalse old.has_failed) (not_sure : (s : State) → ¬ IsSure s command) where
  abbrev start : Meaning
  start = systems.meaning_of old.system

  abbrev end : Meaning
  end = systems.meaning_of new.system

  going_state : (s : State) → Serves (mounted old s) → ServesState old.system s
  going_state s serves = serves.kept (still_going old s serves runs)

  -- it was done
  pub checkpoint_done : IsReplyTo command Done → Checkpoints old.system new.system P command (Ok true) → IsFalse new.has_failed → AllOpen new.system → AnswersCommand 2 P old new command Done
  checkpoint_done kind told runs_on now = record {
    kind = kind;
    uses = told.counted.uses;
    eio = λ same. cc;
    written = λ _. told.counted.writes;
    unlogged = λ errno same. cc;
    logs = λ s serves p accepted served. checkpoint_logs old.system new.system s served command (told.done s (going_state s serves) p) (all_bodies served.lasts.bodies);
    fails = λ lasts stopped. absurd (false≢true (sym runs_on ∙ stopped));
    failed = λ lasts same. cc;
    epoch = told.epoch;
    still = λ s serves p sure. absurd (not_sure s sure);
    applied = λ s serves young p.
        settled old new s serves runs command (not_sure s) told.counted.uses.same runs_on told.counted.reads told.counted.writes (told.done s (going_state s serves) p) now;
  }

  -- the disk had no room
  pub settles_short : Checkpoints old.system new.system P command (Ok false) → IsFalse new.has_failed → AnswersCommand 2 P old new command (Refused ENOSPC)
  settles_short told runs_on = record {
    kind = tt;
    uses = told.counted.uses;
    eio = λ same. cc;
    written = λ _. told.counted.writes;
    unlogged = λ x same other. told.unlogged;
    logs = refused_logs P old new command ENOSPC;
    fails = λ lasts stopped. absurd (false≢true (sym runs_on ∙ stopped));
    failed = λ lasts same. cc;
    epoch = told.epoch;
    still = λ s serves p sure. absurd (not_sure s sure);
    applied = λ s serves young p.
        let came = told.done s (going_state s serves) p in
        short old new s serves runs command (not_sure s) (stays_by old new s serves runs told.counted.uses.same runs_on came.covered.serves came.leaves) came.covered (inl told.counted.reads) told.counted.writes
        (λ room is. (Done, came.after, came.need room, came.step room, came.short room is));
  }

  -- it wasn't done
  pub checkpoint_not_made : (e : PointError) (errno : Errno) → errno ≡ errno_of_point e → Checkpoints old.system new.system P command (Err e) → new.has_failed ≡ fails_point e → AnswersCommand 2 P old new command (Refused errno)
  checkpoint_not_made e errno is told flag = record {
    kind = tt;
    uses = told.counted.uses;
    eio = λ same. point_eio start end e told.counted (sym is ∙ refused_same same);
    written = λ why. point_written start end e told.counted (elim why [
      | inl other ↦ point_refuses e (λ fault. other (ap Refused (is ∙ fault)))
      | inr runs_on ↦ λ fault. false≢true (sym runs_on ∙ flag ∙ ap fails_point fault)
    ]);
    unlogged = λ x same other. told.unlogged;
    logs = refused_logs P old new command errno;
    fails = λ lasts stopped. inr (ap Refused (is ∙ point_fails e (left lasts) (sym flag ∙ stopped)));
    failed = λ lasts same. absurd (point_not_failed e (left lasts) (sym is ∙ refused_same same));
    epoch = told.epoch;
    still = λ s serves p sure. absurd (not_sure s sure);
    applied = λ s serves young p.
        let here = going_state s serves in
        answered_as old new s command (errno_of_point e) errno is
        (no_point old new s serves runs command e (not_sure s) (omega (arith, young)) told.counted (λ x. told.roomy s here p (ap (λ y. Err y) x))
        (λ x. let late = told.last s here p (ap (λ y. Err y) x) in absurd (omega (arith, late, young))) (λ x. told.damaged s here p (ap (λ y. Err y) x)) flag
        (λ refused runs_on. let kept = told.stays s here refused in stays_by old new s serves runs told.counted.uses.same runs_on kept.0 kept.1)
        (λ x. cut_within old.system new.system s command (told.broken s here p (ap (λ y. Err y) x))));
  }
    where
      left : HasGenerations 2 old → e ≡ NoGeneration → ⊥
      left lasts last = let late = told.past (ap (λ y. Err y) last) lasts.0 in let few = lasts.1 in omega (arith, late, few)

-- ---- what the last command read

-- a command behind the letting go of that
pub behind_letting_go : {S : Type 0} {G : Ghosts S} (old mid new : Fs S G) (command : Command) (reply : Reply) → IsFalse old.has_failed → IsFalse mid.has_failed → AllOpen old.system → Glances {T = Unit {0}} old.system mid.system (Ok tt)
    → mid.system.blocks.buffers.station ≡ old.system.blocks.buffers.station → AnswersAlways mid new command reply → AnswersAlways old new command reply
behind_letting_go old mid new command reply runs runs_on opens told station then =
    behind_still POINTS 0 POINTS (λ s. Unit {0}) (λ s. Unit {0}) old mid new command reply (omega arith) runs (glance_keeps old mid runs runs_on opens tt told) then
    (logs_kept POINTS (λ s. Unit {0}) (λ s. Unit {0}) old mid new command reply then (λ s serves p. tt) (glance_keeps old mid runs runs_on opens tt told) told.serves) (λ s serves p. tt)
    (λ s serves p sure. station)
