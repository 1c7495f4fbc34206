-- What comes of a command: one that waits, one that has a commit before it, and one alone.
use Rattle.std.proofs.Common.{◌≡◌, ◌≢◌, inl, inr, ℕ, ◌+◌, ◌≤◌, ◌^◌, Bool, true, false, [], Option, Some, None, Ok, Err, refl, ap, sym, subst, ◌∙◌, arith}
use Rattle.std.specs.Prelude.{IsFalse, IsTrue}
use Rattle.std.proofs.lemmas.Bool.{false≢true}
use Rattle.station.specs.Moments.{EachCut, Meaning}
use Rattle.station.specs.declared.station.Station.{Ghosts}
use Rattle.station.proofs.Calls.{uses_none, uses_twice}
use Rattle.station.proofs.Moments.{same_none}
use Rattle.model.specs.States.{State}
use Rattle.model.specs.Trees.{Description}
use Rattle.model.specs.declared.command.Command.{Command}
use Rattle.model.specs.declared.errno.Errno.{Errno}
use Rattle.model.specs.declared.errno.Errno.TheVariants.{EIO, FAILED}
use Rattle.model.specs.declared.reply.Reply.{Reply}
use Rattle.model.specs.declared.reply.Reply.TheVariants.{Refused}
use Rattle.system.specs.Ahead.{HasStateAhead}
use Rattle.system.specs.Counting.{AgesBy}
use Rattle.system.proofs.CountingLaws as counting
use Rattle.system.specs.Images.{OpensTo}
use Rattle.system.specs.Serving.{ServesState}
use Rattle.system.specs.Systems.{HasState}
use Rattle.system.specs.Waits.{Waits, none_waits}
use Rattle.mount.specs.Applying.{AppliesCommand}
use Rattle.mount.specs.Batches.{together}
use Rattle.mount.specs.Batching.{AppliesAlone, AppliesInBatches, CommitsAll, MayWait, RunsInBatches, Shows, meaning_of, with_batch}
use Rattle.mount.specs.Systems.{HasPoints, Serves, mounted}
use Rattle.mount.specs.declared.fs.TheConstants.{POINTS}
use Rattle.mount.specs.declared.waiting.Waiting.{Waiting}
use Rattle.mount.proofs.AnswerLemmas.{ages_same}
use Rattle.mount.proofs.StationLemmas.{on_none}
use Rattle.mount.proofs.CountLemmas.{failed_after}
use Rattle.mount.proofs.ApplyLemmas.{is_going, not_both, served_now}
use Rattle.mount.proofs.WaitingLemmas.{run_alone, settles_here, shown_going}

-- ---- a command, and what waits before it

module _ {S : Type 0} {G : Ghosts S} (old new : Waiting S G) (command : Command) where
  -- it waits
  pub applies_waiting : (reply : Reply) → MayWait old new command (Some reply) → AppliesInBatches old new command reply
  applies_waiting reply waits = record {
    kind = waits.kind;
    uses = waits.uses;
    eio = λ is. waits.eio (ap (λ r. Some r) is);
    written = λ _. waits.written;
    fails = λ lasts stopped. inl (sym waits.goes ∙ stopped);
    epoch = ages_same POINTS old.fs.system.log.epoch new.fs.system.log.epoch waits.epoch;
    failed = λ stopped. let is = waits.failed stopped in (some_same is.0, is.1);
    shows = λ s kept shows points goes.
        let it = waits.shows s kept shows in
        (it.next, kept, it.shows, (it.leads.circumstances, it.leads.allowed));
    goes_on = λ first s batches steps run goes young. inl (waits.goes_on first s batches steps run goes);
  }
    where
      some_same : {x y : Reply} → Some x ≡ Some y → x ≡ y
      some_same is = cc

module _ {S : Type 0} {G : Ghosts S} (old mid last new : Waiting S G) (command : Command) (waits : MayWait old mid command None) where
  abbrev a : Meaning
  a = meaning_of old

  abbrev b : Meaning
  b = meaning_of mid

  abbrev d : Meaning
  d = meaning_of last

  abbrev e : Meaning
  e = meaning_of new

  goes_none : IsFalse old.fs.has_failed
  goes_none = not_failed old.fs.has_failed (λ stopped. none_some (waits.failed stopped).0)
    where
      none_some : {x : Reply} → None ≡ Some x → ⊥
      none_some is = cc

      not_failed : (flag : Bool) → (IsTrue flag → ⊥) → IsFalse flag
      not_failed false never = refl
      not_failed true never = absurd (never refl)

  goes_mid : IsFalse mid.fs.has_failed
  goes_mid = waits.goes ∙ goes_none

  -- it is done alone
  pub applies_alone : (u : Unit {0}) → CommitsAll mid last (Ok u) → (reply : Reply) → AppliesAlone last new command reply → AppliesInBatches old new command reply
  applies_alone u commits reply alone_so =
      let answers = alone_so.applies.answers in
      let uses = uses_twice a d e (uses_twice a b d waits.uses commits.uses) answers.uses in
      let epoch_same : last.fs.system.log.epoch ≡ old.fs.system.log.epoch = commits.epoch ∙ waits.epoch in
      let points = λ (n : ℕ) (lasts : HasPoints n old.fs). points_kept n old.fs.system.log.epoch last.fs.system.log.epoch epoch_same lasts in
      record {
        kind = answers.kind;
        uses = uses;
        eio = λ is. failed_after a d e (uses_twice a b d waits.uses commits.uses) (answers.eio is);
        written = λ why. answers.written why ∙ commits.written ∙ waits.written;
        fails = λ lasts stopped. elim (answers.fails (generations_kept POINTS old.fs.system.log.epoch last.fs.system.log.epoch epoch_same lasts.0 lasts.1) stopped) [
          | inl before ↦ absurd (false≢true (sym commits.goes ∙ before))
          | inr told ↦ inr told
        ];
        epoch = ages_from POINTS old.fs.system.log.epoch last.fs.system.log.epoch new.fs.system.log.epoch epoch_same answers.epoch;
        failed = λ stopped. absurd (false≢true (sym goes_none ∙ stopped));
        shows = λ s kept shows young goes.
            let here = commits.shows s kept (waits.shows s kept shows) in
            let it = alone_so.shows s here (points POINTS young) goes in
            (it.0, it.0, it.1, it.2);
        goes_on = λ first s batches steps run goes young.
            let behind = commits.goes_on first s batches steps (waits.goes_on first s batches steps run goes) goes_mid in
            inr (inl (alone_so.goes_on first s (with_batch batches (together steps)) behind commits.goes (points POINTS young)));
      }
    where
      points_kept : (n x y : ℕ) → y ≡ x → x + n ≤ 2 ^ 62 → y + n ≤ 2 ^ 62
      points_kept n x y same le = omega (arith, same, le)

      generations_kept : (n x y : ℕ) → y ≡ x → 1 ≤ x → x + n ≤ 2 ^ 62 → (1 ≤ y) × (y + n ≤ 2 ^ 62)
      generations_kept n x y same low le = (omega (arith, same, low), omega (arith, same, le))

      ages_from : (n x y z : ℕ) → y ≡ x → AgesBy n y z → AgesBy n x z
      ages_from n x y z same ages = subst (λ (k : ℕ). AgesBy n k z) same ages

-- what waited was lost before it
pub applies_lost : {S : Type 0} {G : Ghosts S} (old mid new : Waiting S G) (command : Command) → MayWait old mid command None → (errno : Errno) → CommitsAll mid new (Err errno)
    → AppliesInBatches old new command (Refused errno)
applies_lost old mid new command waits errno commits =
    let a = meaning_of old in
    let b = meaning_of mid in
    let e = meaning_of new in
    let goes_old : IsFalse old.fs.has_failed = goes_none old mid mid new command waits in
    let goes = goes_mid old mid mid new command waits in
    let is : errno ≡ EIO = commits.own goes in
    record {
      kind = tt;
      uses = uses_twice a b e waits.uses commits.uses;
      eio = λ same. failed_after a b e waits.uses (commits.eio (ap (λ x. Err x) is));
      written = λ why. absurd (elim why [
        | inl other ↦ other (ap (λ x. Refused x) is)
        | inr runs ↦ false≢true (sym runs ∙ commits.fails)
      ]);
      fails = λ lasts stopped. inr (ap (λ x. Refused x) is);
      epoch = ages_same POINTS old.fs.system.log.epoch new.fs.system.log.epoch (commits.epoch ∙ waits.epoch);
      failed = λ stopped. absurd (false≢true (sym goes_old ∙ stopped));
      shows = λ s kept shows young runs. absurd (false≢true (sym runs ∙ commits.fails));
      goes_on = λ first s batches steps run runs young.
          inr (inr (ap (λ x. Refused x) is, commits.goes_on first s batches steps (waits.goes_on first s batches steps run runs) goes));
    }

-- ---- a command alone

module _ {S : Type 0} {G : Ghosts S} (w : Waiting S G) (none : w.records ≡ none_waits) where
  -- where nothing waits, what is shown is served
  pub shown_served : ((table : ℕ → Option Description) (s kept : State) → HasStateAhead w.fs.system none_waits table s kept → HasState w.fs.system table s)
      → (s kept : State) → Shows w s kept → Serves (mounted w.fs s)
  shown_served ends s kept shows = record {
    honest = shows.honest;
    mark = shown_going w s kept shows ∙ sym (is_going w.fs.has_failed shows.goes);
    kept = λ _. ends s.tree.descriptors s kept (subst (λ (waits : Waits). HasStateAhead w.fs.system waits s.tree.descriptors s kept) none shows.ahead);
    cut_short = λ stopped. not_both s.mark (shown_going w s kept shows) stopped;
  }

  -- and what is served is shown
  pub served_shown : ((table : ℕ → Option Description) (s : State) → HasState w.fs.system table s → HasStateAhead w.fs.system none_waits table s s)
      → (s : State) → Serves (mounted w.fs s) → IsFalse w.fs.has_failed → Shows w s s
  served_shown begins s serves goes = record {
    honest = serves.honest;
    goes = goes;
    ahead = subst (λ (waits : Waits). HasStateAhead w.fs.system waits s.tree.descriptors s s) (sym none) (begins s.tree.descriptors s (serves.kept (serves.mark ∙ is_going w.fs.has_failed goes)));
  }

module _ {S : Type 0} {G : Ghosts S} (old new : Waiting S G) (command : Command) (reply : Reply) (none : old.records ≡ none_waits) (still_none : new.records ≡ none_waits)
    (applies : AppliesCommand old.fs new.fs command reply)
    (ends : (table : ℕ → Option Description) (s kept : State) → HasStateAhead old.fs.system none_waits table s kept → HasState old.fs.system table s)
    (begins : (table : ℕ → Option Description) (s : State) → HasState new.fs.system table s → HasStateAhead new.fs.system none_waits table s s)
    (opens : (s : State) → ServesState new.fs.system s → EachCut (meaning_of new) (OpensTo (meaning_of new) s)) where
  pub is_alone : AppliesAlone old new command reply
  is_alone = record {
    applies = applies;
    waits = still_none;
    shows = λ s shows young goes.
        let it = applies.answers.applied s (shown_served old none ends s s shows) young tt in
        let leads = it.1.leads in
        (it.0, served_shown new still_none begins it.0 it.1.serves goes, (leads.circumstances, leads.allowed));
    goes_on = λ first s batches run goes young.
        let t = run.last.state in
        let it = applies.answers.applied t (shown_served old none ends t run.border.state (run.shows goes)) young tt in
        run_alone old new command reply first s batches run goes applies.answers.uses.same it (served_now new.fs it.0 it.1.serves (λ is. opens it.0 (it.1.serves.kept is)))
        (λ on. served_shown new still_none begins it.0 it.1.serves on);
  }

-- ---- where commands begin to wait
pub runs_begin : {S : Type 0} {G : Ghosts S} (w : Waiting S G) → w.records ≡ none_waits
    → ((table : ℕ → Option Description) (s : State) → HasState w.fs.system table s → HasStateAhead w.fs.system none_waits table s s)
    → ((s : State) → ServesState w.fs.system s → EachCut (meaning_of w) (OpensTo (meaning_of w) s)) → (s : State) → Serves (mounted w.fs s) → IsFalse w.fs.has_failed → RunsInBatches w.fs s w [] []
runs_begin w none begins opens s serves goes =
    let here = mounted w.fs s in
    record {
      border = here;
      last = here;
      same = same_none (meaning_of w);
      goes_on = on_none (meaning_of w);
      spans = (refl, served_now w.fs s serves (λ is. opens s (serves.kept is)));
      waits = refl;
      settles = settles_here here;
      mark = serves.mark;
      shows = λ runs. served_shown w none begins s serves runs;
      lost = λ stopped. refl;
    }

-- ---- a system that had failed, and a command that can't wait at all

module _ {S : Type 0} {G : Ghosts S} (w : Waiting S G) where
  pub waits_failed : (command : Command) → IsTrue w.fs.has_failed → MayWait w w command (Some (Refused FAILED))
  waits_failed command stopped = record {
    kind = tt;
    uses = uses_none (meaning_of w);
    eio = λ is. cc;
    written = refl;
    unlogged = counting.none_logged (meaning_of w);
    epoch = refl;
    goes = refl;
    failed = λ _. (refl, refl);
    was_failed = λ _. stopped;
    refused = λ errno is. refl;
    stays = λ is. cc;
    at_once = λ at runs. absurd (false≢true (sym runs ∙ stopped));
    shows = λ s kept shows. absurd (false≢true (sym shows.goes ∙ stopped));
    goes_on = λ first s batches steps run runs. absurd (false≢true (sym runs ∙ stopped));
  }

  pub waits_never : (command : Command) → IsFalse w.fs.has_failed → MayWait w w command None
  waits_never command runs = record {
    kind = tt;
    uses = uses_none (meaning_of w);
    eio = λ is. cc;
    written = refl;
    unlogged = counting.none_logged (meaning_of w);
    epoch = refl;
    goes = refl;
    failed = λ stopped. absurd (false≢true (sym runs ∙ stopped));
    was_failed = λ is. cc;
    refused = λ errno is. cc;
    stays = λ is. refl;
    at_once = λ at going_on. tt;
    shows = λ s kept shows. shows;
    goes_on = λ first s batches steps run going_on. run;
  }
