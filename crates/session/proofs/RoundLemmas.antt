-- Rounds of lines that are answered, and the run in batches that they are.
use Rattle.std.proofs.Common.{◌≡◌, ◌⊎◌, inl, inr, ℕ, ◌+◌, ◌*◌, ◌<◌, ◌≤◌, ◌^◌, Bool, true, false, List, [], ◌∷◌, ◌++◌, length, Option, Some, None, Result, Ok, Err, arith, refl, sym, ◌∙◌, ap, subst, append_assoc}
use Rattle.std.specs.Prelude.{IsFalse, IsTrue}
use Rattle.std.proofs.lemmas.Bool.{false≢true}
use Rattle.std.proofs.lemmas.Grind.{flat_map-append}
use Rattle.std.proofs.lemmas.List.{length-append, append-nil}
use Rattle.model.specs.declared.command.Command.{Command}
use Rattle.model.specs.declared.errno.Errno.{Errno}
use Rattle.model.specs.declared.errno.Errno.TheVariants.{FAILED}
use Rattle.model.specs.declared.reply.Reply.{Reply}
use Rattle.model.specs.States.{State}
use Rattle.station.specs.declared.station.Station.{Ghosts}
use Rattle.mount.specs.Batches.{Batch}
use Rattle.mount.specs.Batching.{CommitsAll, RunsInBatches}
use Rattle.mount.specs.Systems.{IsYoung, LastsFor, Serves, mounted}
use Rattle.mount.specs.declared.fs.Fs.{Fs}
use Rattle.mount.specs.declared.fs.TheConstants.{POINTS}
use Rattle.mount.specs.declared.waiting.Waiting.{Waiting}
use Rattle.session.specs.Rounds.{AreAnswered, Commits, Course, HasTried, HasRun, LeadRounds, LeadsRound, Round, RunsSoFar, WaitAll, Waits, begun, behind_round, behind_rounds, dialog_of, does, loses, refuses, settles, told, told_of, waits, with_lines}
use Rattle.session.specs.Shells.{Dialog, step_before, steps_of}
use Rattle.session.specs.declared.durability.Durability.{Durability}

-- ---- lists of rounds

behind_more : (c : Course) (rounds : List Round) (round : Round) → behind_rounds c (rounds ++ round ∷ []) ≡ behind_round (behind_rounds c rounds) round
behind_more c [] round = refl
behind_more c (r ∷ rs) round = behind_more (behind_round c r) rs round

ok_is_none : (result : Result (Unit {0}) Errno) (errno : Errno) → result ≡ Ok tt → result ≡ Err errno → ⊥
ok_is_none result errno ok err = cc

fits_first : (a n m : ℕ) → n ≤ m → a + POINTS * m < 2 ^ 62 → a + POINTS * n < 2 ^ 62
fits_first a n m le lasts = omega arith

is_young : (a b n : ℕ) → b ≤ a + POINTS * n → a + POINTS * (n + 1) < 2 ^ 62 → b + POINTS ≤ 2 ^ 62
is_young a b n le lasts = omega arith

module _ {S : Type 0} {G : Ghosts S} where
  -- ---- lines that wait

  waits_failed : (old new : Waiting S G) (step : Option (Command × Reply)) → IsTrue old.fs.has_failed → Waits old new step → new ≡ old
  waits_failed old new None failed did = did
  waits_failed old new (Some step) failed did = (did.failed failed).1

  all_failed : (old new : Waiting S G) (lines : Dialog) → IsTrue old.fs.has_failed → WaitAll old new lines → new ≡ old
  all_failed old new [] failed did = did
  all_failed old new (line ∷ lines) failed (next, one, rest) =
      let first = waits_failed old next line.1 failed one in
      all_failed next new lines (subst (λ (w : Waiting S G). IsTrue w.fs.has_failed) (sym first) failed) rest ∙ first

  waits_going : (old new : Waiting S G) (step : Option (Command × Reply)) → Waits old new step → new.fs.has_failed ≡ old.fs.has_failed
  waits_going old new None did = ap (λ (w : Waiting S G). w.fs.has_failed) did
  waits_going old new (Some step) did = did.goes

  all_going : (old new : Waiting S G) (lines : Dialog) → WaitAll old new lines → new.fs.has_failed ≡ old.fs.has_failed
  all_going old new [] did = ap (λ (w : Waiting S G). w.fs.has_failed) did
  all_going old new (line ∷ lines) (next, one, rest) = all_going next new lines rest ∙ waits_going old next line.1 one

  waits_epoch : (old new : Waiting S G) (step : Option (Command × Reply)) → Waits old new step → new.fs.system.log.epoch ≡ old.fs.system.log.epoch
  waits_epoch old new None did = ap (λ (w : Waiting S G). w.fs.system.log.epoch) did
  waits_epoch old new (Some step) did = did.epoch

  all_epoch : (old new : Waiting S G) (lines : Dialog) → WaitAll old new lines → new.fs.system.log.epoch ≡ old.fs.system.log.epoch
  all_epoch old new [] did = ap (λ (w : Waiting S G). w.fs.system.log.epoch) did
  all_epoch old new (line ∷ lines) (next, one, rest) = all_epoch next new lines rest ∙ waits_epoch old next line.1 one

  -- nor is anything done by a command that can't wait
  tried_failed : (old new : Waiting S G) → IsTrue old.fs.has_failed → HasTried old new → new ≡ old
  tried_failed old new failed (inl same) = same
  tried_failed old new failed (inr (c, tried)) = (tried.failed failed).1

  tried_going : (old new : Waiting S G) → HasTried old new → new.fs.has_failed ≡ old.fs.has_failed
  tried_going old new (inl same) = ap (λ (w : Waiting S G). w.fs.has_failed) same
  tried_going old new (inr (c, tried)) = tried.goes

  tried_epoch : (old new : Waiting S G) → HasTried old new → new.fs.system.log.epoch ≡ old.fs.system.log.epoch
  tried_epoch old new (inl same) = ap (λ (w : Waiting S G). w.fs.system.log.epoch) same
  tried_epoch old new (inr (c, tried)) = tried.epoch

  ready_epoch : (old new : Waiting S G) (lines : Dialog) (done : Result (Unit {0}) Errno) → Commits old new lines done → new.fs.system.log.epoch ≡ old.fs.system.log.epoch
  ready_epoch old new lines done commits = commits.commits.epoch ∙ tried_epoch commits.mid commits.ready commits.tried ∙ all_epoch old commits.mid lines commits.each

  ready_going : (old new : Waiting S G) (lines : Dialog) (done : Result (Unit {0}) Errno) (commits : Commits old new lines done) → commits.ready.fs.has_failed ≡ old.fs.has_failed
  ready_going old new lines done commits = tried_going commits.mid commits.ready commits.tried ∙ all_going old commits.mid lines commits.each

  ready_failed : (old new : Waiting S G) (lines : Dialog) (done : Result (Unit {0}) Errno) (commits : Commits old new lines done) → IsTrue old.fs.has_failed → commits.ready ≡ old
  ready_failed old new lines done commits failed =
      let same = all_failed old commits.mid lines failed commits.each in
      tried_failed commits.mid commits.ready (subst (λ (w : Waiting S G). IsTrue w.fs.has_failed) (sym same) failed) commits.tried ∙ same

  -- one line more
  pub waits_more : (old mid new : Waiting S G) (lines : Dialog) (line : List ℕ) (step : Option (Command × Reply)) → WaitAll old mid lines → Waits mid new step → WaitAll old new (lines ++ (line, step) ∷ [])
  waits_more old mid new [] line step so_far one = (new, subst (λ (w : Waiting S G). Waits w new step) so_far one, refl)
  waits_more old mid new (l ∷ ls) line step (next, first, rest) one = (next, first, waits_more next mid new ls line step rest one)

  -- ---- the run in batches

  module _ (first : Fs S G) (s : State) where
    abbrev Runs : Waiting S G → List Batch → List (Command × Reply) → Type 0
    Runs w batches steps = RunsInBatches first s w batches steps

    one_runs : (old new : Waiting S G) (batches : List Batch) (steps more : List (Command × Reply)) (step : Option (Command × Reply)) → IsFalse old.fs.has_failed
        → Runs old batches steps → Waits old new step → (at : List (Command × Reply)) × Runs new batches at × (at ++ more ≡ steps ++ step_before step more)
    one_runs old new batches steps more None going runs did = (steps, subst (λ (w : Waiting S G). Runs w batches steps) (sym did) runs, refl)
    one_runs old new batches steps more (Some step) going runs did = (steps ++ step ∷ [], did.goes_on first s batches steps runs going, append_assoc steps (step ∷ []) more)

    all_run : (old new : Waiting S G) (batches : List Batch) (steps : List (Command × Reply)) (lines : Dialog) → IsFalse old.fs.has_failed
        → Runs old batches steps → WaitAll old new lines → Runs new batches (steps ++ steps_of lines)
    all_run old new batches steps [] going runs did = subst (λ (l : List (Command × Reply)). Runs new batches l) (sym (append-nil steps)) (subst (λ (w : Waiting S G). Runs w batches steps) (sym did) runs)
    all_run old new batches steps (line ∷ lines) going runs (next, one, rest) =
        let (at, ran, same) = one_runs old next batches steps (steps_of lines) line.1 going runs one in
        subst (λ (l : List (Command × Reply)). Runs new batches l) same (all_run next new batches at lines (subst (λ (b : Bool). IsFalse b) (sym (waits_going old next line.1 one)) going) ran rest)

    tried_runs : (old new : Waiting S G) (batches : List Batch) (steps : List (Command × Reply)) → IsFalse old.fs.has_failed → Runs old batches steps → HasTried old new → Runs new batches steps
    tried_runs old new batches steps going runs (inl same) = subst (λ (w : Waiting S G). Runs w batches steps) (sym same) runs
    tried_runs old new batches steps going runs (inr (c, tried)) = tried.goes_on first s batches steps runs going

    ready_runs : (old new : Waiting S G) (c : Course) (lines : Dialog) (done : Result (Unit {0}) Errno) (commits : Commits old new lines done) → IsFalse old.fs.has_failed → RunsSoFar first s old c → RunsSoFar first s commits.ready (with_lines c lines)
    ready_runs old new c lines done commits going runs =
        tried_runs commits.mid commits.ready c.batches (c.waiting ++ steps_of lines) (subst (λ (b : Bool). IsFalse b) (sym (all_going old commits.mid lines commits.each)) going)
        (all_run old commits.mid c.batches c.waiting lines going runs commits.each) commits.tried

    commits_run : (old new : Waiting S G) (c : Course) (lines : Dialog) → IsFalse old.fs.has_failed → RunsSoFar first s old c → Commits old new lines (Ok tt) → RunsSoFar first s new (behind_round c (settles lines))
    commits_run old new c lines going runs commits =
        commits.commits.goes_on first s c.batches (c.waiting ++ steps_of lines) (ready_runs old new c lines (Ok tt) commits going runs)
        (subst (λ (b : Bool). IsFalse b) (sym (ready_going old new lines (Ok tt) commits)) going)

    loses_run : (old new : Waiting S G) (c : Course) (lines : Dialog) (errno : Errno) → IsFalse old.fs.has_failed → RunsSoFar first s old c → Commits old new lines (Err errno) → RunsSoFar first s new (behind_round c (loses lines errno))
    loses_run old new c lines errno going runs commits =
        commits.commits.goes_on first s c.batches (c.waiting ++ steps_of lines) (ready_runs old new c lines (Err errno) commits going runs)
        (subst (λ (b : Bool). IsFalse b) (sym (ready_going old new lines (Err errno) commits)) going)

    -- a round is done on a system that goes on
    round_runs : (d : Durability) (old new : Waiting S G) (c : Course) (round : Round) → IsFalse old.fs.has_failed → IsYoung old.fs → RunsSoFar first s old c → LeadsRound d old new round → RunsSoFar first s new (behind_round c round)
    round_runs d old new c (waits lines) going young runs leads = all_run old new c.batches c.waiting lines going runs leads.0
    round_runs d old new c (settles lines) going young runs leads = commits_run old new c lines going runs leads
    round_runs d old new c (loses lines errno) going young runs leads = loses_run old new c lines errno going runs leads
    round_runs d old new c (does lines line command reply) going young runs (next, commits, applies) =
        applies.goes_on first s (behind_round c (settles lines)).batches (commits_run old next c lines going runs commits) commits.commits.goes
        (subst (λ (n : ℕ). n + POINTS ≤ 2 ^ 62) (sym (ready_epoch old next lines (Ok tt) commits)) young)
    round_runs d old new c (refuses lines line command errno) going young runs leads = loses_run old new c lines errno going runs leads

  -- ---- on a system that had failed nothing is done

  commits_failed : (old new : Waiting S G) (lines : Dialog) (errno : Errno) → IsTrue old.fs.has_failed → Commits old new lines (Err errno) → new ≡ old
  commits_failed old new lines errno failed commits =
      let same = ready_failed old new lines (Err errno) commits failed in
      (commits.commits.failed (subst (λ (w : Waiting S G). IsTrue w.fs.has_failed) (sym same) failed)).1 ∙ same

  never_settles : (old new : Waiting S G) (lines : Dialog) → IsTrue old.fs.has_failed → Commits old new lines (Ok tt) → ⊥
  never_settles old new lines failed commits =
      let same = ready_failed old new lines (Ok tt) commits failed in
      ok_is_none (Ok tt) FAILED refl (commits.commits.failed (subst (λ (w : Waiting S G). IsTrue w.fs.has_failed) (sym same) failed)).0

  round_failed : (d : Durability) (old new : Waiting S G) (round : Round) → IsTrue old.fs.has_failed → LeadsRound d old new round → new ≡ old
  round_failed d old new (waits lines) failed leads = all_failed old new lines failed leads.0
  round_failed d old new (settles lines) failed leads = absurd (never_settles old new lines failed leads)
  round_failed d old new (loses lines errno) failed leads = commits_failed old new lines errno failed leads
  round_failed d old new (does lines line command reply) failed (next, commits, applies) = absurd (never_settles old next lines failed commits)
  round_failed d old new (refuses lines line command errno) failed leads = commits_failed old new lines errno failed leads

  -- ---- one round more

  round_lasts : (d : Durability) (old new : Waiting S G) (round : Round) → LeadsRound d old new round → new.fs.system.log.epoch ≤ old.fs.system.log.epoch + POINTS
  round_lasts d old new (waits lines) leads = omega (arith, all_epoch old new lines leads.0)
  round_lasts d old new (settles lines) leads = omega (arith, ready_epoch old new lines (Ok tt) leads)
  round_lasts d old new (loses lines errno) leads = omega (arith, ready_epoch old new lines (Err errno) leads)
  round_lasts d old new (does lines line command reply) (next, commits, applies) = omega (arith, ready_epoch old next lines (Ok tt) commits, applies.applies.answers.epoch.lasts)
  round_lasts d old new (refuses lines line command errno) leads = omega (arith, ready_epoch old new lines (Err errno) leads)

  leads_more : (d : Durability) (first mid new : Waiting S G) (rounds : List Round) (round : Round) → LeadRounds d first mid rounds → LeadsRound d mid new round → LeadRounds d first new (rounds ++ round ∷ [])
  leads_more d first mid new [] round so_far leads = (new, subst (λ (w : Waiting S G). LeadsRound d w new round) so_far leads, refl)
  leads_more d first mid new (r ∷ rs) round (next, one, rest) leads = (next, one, leads_more d next mid new rs round rest leads)

  run_more : (d : Durability) (first : Fs S G) (s : State) (mid new : Waiting S G) (rounds : List Round) (round : Round) (failed : Bool) → failed ≡ mid.fs.has_failed → IsYoung mid.fs
      → HasRun first s mid rounds → LeadsRound d mid new round → HasRun first s new (rounds ++ round ∷ [])
  run_more d first s mid new rounds round false is young ran leads =
      let all = ran.all (subst (λ (b : Bool). IsFalse b) is refl) in
      let whole : ran.before ≡ rounds = sym (append-nil ran.before) ∙ ap (λ (l : List Round). ran.before ++ l) (sym all.0) ∙ sym ran.is in
      let runs : RunsSoFar first s mid (behind_rounds begun rounds) = subst (λ (l : List Round). RunsSoFar first s mid (behind_rounds begun l)) whole (subst (λ (w : Waiting S G). RunsSoFar first s w (behind_rounds begun ran.before)) (sym all.1) ran.runs) in
      record {
        before = rounds ++ round ∷ [];
        rest = [];
        is = sym (append-nil (rounds ++ round ∷ []));
        last = new;
        runs = subst (λ (c : Course). RunsSoFar first s new c) (sym (behind_more begun rounds round))
            (round_runs first s d mid new (behind_rounds begun rounds) round (subst (λ (b : Bool). IsFalse b) is refl) young runs leads);
        fs = refl;
        all = λ going. (refl, refl);
      }
  run_more d first s mid new rounds round true is young ran leads =
      let failed : IsTrue mid.fs.has_failed = subst (λ (b : Bool). IsTrue b) is refl in
      let same = round_failed d mid new round failed leads in
      record {
        before = ran.before;
        rest = ran.rest ++ round ∷ [];
        is = ap (λ (l : List Round). l ++ round ∷ []) ran.is ∙ append_assoc ran.before ran.rest (round ∷ []);
        last = ran.last;
        runs = ran.runs;
        fs = ap (λ (w : Waiting S G). w.fs) same ∙ ran.fs;
        all = λ going. absurd (false≢true (sym going ∙ (ap (λ (w : Waiting S G). w.fs.has_failed) same ∙ sym is)));
      }

  pub answered_more : (d : Durability) (first mid new : Waiting S G) (rounds : List Round) (round : Round) → AreAnswered d first mid rounds → LeadsRound d mid new round → AreAnswered d first new (rounds ++ round ∷ [])
  answered_more d first mid new rounds round answered leads =
      let count : length (rounds ++ round ∷ []) ≡ length rounds + 1 = length-append rounds (round ∷ []) in
      let start = first.fs.system.log.epoch in
      record {
        each = leads_more d first mid new rounds round answered.each leads;
        lasts = omega (arith, answered.lasts, round_lasts d mid new round leads, count);
        ran = λ s serves lasts.
            let all : start + POINTS * (length rounds + 1) < 2 ^ 62 = subst (λ n. start + POINTS * n < 2 ^ 62) count lasts in
            run_more d first.fs s mid new rounds round mid.fs.has_failed refl (is_young start mid.fs.system.log.epoch (length rounds) answered.lasts all)
            (answered.ran s serves (fits_first start (length rounds) (length rounds + 1) (omega arith) all)) leads;
      }

  pub answered_none : (d : Durability) (first : Waiting S G) → ((s : State) → Serves (mounted first.fs s) → RunsInBatches first.fs s first [] []) → AreAnswered d first first []
  answered_none d first begins = record {
    each = refl;
    lasts = omega arith;
    ran = λ s serves lasts. record { before = []; rest = []; is = refl; last = first; runs = begins s serves; fs = refl; all = λ going. (refl, refl) };
  }

-- ---- what is shown of one round more

pub told_more : (rounds : List Round) (round : Round) → told (rounds ++ round ∷ []) ≡ told rounds ++ told_of round
told_more rounds round = flat_map-append told_of rounds (round ∷ []) ∙ ap (λ (l : List ℕ). told rounds ++ l) (append-nil (told_of round))
