-- Batches: their commands, and the runs and prefixes that they are.
use Rattle.std.proofs.Common.{◌≡◌, inl, inr, List, [], ◌∷◌, ◌++◌, refl, sym, ap, subst, ◌∙◌, append_assoc}
use Rattle.std.proofs.lemmas.List.{append-nil}
use Rattle.model.specs.declared.command.Command.{Command}
use Rattle.model.specs.declared.reply.Reply.{Reply}
use Rattle.model.specs.States.{State, going, failed}
use Rattle.model.specs.Circumstances.{Circumstances}
use Rattle.model.specs.Runs.{IsPrefix, IsUnderWay, Leads, Runs}
use Rattle.mount.specs.Batches.{AreSteady, Batch, HasDone, alone, together, lost, IsPrefixOfBatches, IsWhole, LeadsBatch, MayStandWhole, RunsBatches, all_steps, one_by_one, steps_of}
use Rattle.mount.proofs.SpanLemmas.{prefix_first, stands_before, stands_prefix, stays_failed, under_way_now}

-- the commands of batches, and of those behind them
pub all_steps_append : (batches rest : List Batch) → all_steps (batches ++ rest) ≡ all_steps batches ++ all_steps rest
all_steps_append [] rest = refl
all_steps_append (batch ∷ batches) rest =
    ap (λ (l : List (Command × Reply)). steps_of batch ++ l) (all_steps_append batches rest) ∙ sym (append_assoc (steps_of batch) (all_steps batches) (all_steps rest))

-- and of one batch more
pub all_steps_push : (batches : List Batch) (batch : Batch) → all_steps (batches ++ batch ∷ []) ≡ all_steps batches ++ steps_of batch
all_steps_push batches batch = all_steps_append batches (batch ∷ []) ∙ ap (λ (l : List (Command × Reply)). all_steps batches ++ l) (append-nil (steps_of batch))

pub all_steps_one_by_one : (steps : List (Command × Reply)) → all_steps (one_by_one steps) ≡ steps
all_steps_one_by_one [] = refl
all_steps_one_by_one (step ∷ steps) = ap (λ (l : List (Command × Reply)). step ∷ l) (all_steps_one_by_one steps)

pub one_by_one_append : (steps more : List (Command × Reply)) → one_by_one (steps ++ more) ≡ one_by_one steps ++ one_by_one more
one_by_one_append [] more = refl
one_by_one_append (step ∷ steps) more = ap (λ (l : List Batch). alone step ∷ l) (one_by_one_append steps more)

-- runs of commands
module _ {System : Type 0} (state_of : System → State) (Between : System → Command → System → Circumstances → Type 0) where
  pub runs_append : (f : System) (steps : List (Command × Reply)) (next : System) (more : List (Command × Reply)) (last : System) → Runs state_of Between f steps next
      → Runs state_of Between next more last → Runs state_of Between f (steps ++ more) last
  runs_append f [] next more last first second = subst (λ (g : System). Runs state_of Between g more last) first second
  runs_append f (step ∷ steps) next more last first second = (first.0, first.1, runs_append first.0 steps next more last first.2 second)

  -- one command more
  pub runs_push : (f : System) (steps : List (Command × Reply)) (last new : System) (step : Command × Reply) → Runs state_of Between f steps last → Leads state_of Between last step new
      → Runs state_of Between f (steps ++ step ∷ []) new
  runs_push f steps last new step ran leads = runs_append f steps last (step ∷ []) new ran (new, leads, refl)

  -- a prefix of the rest, behind commands
  pub prefix_after : (f : System) (steps : List (Command × Reply)) (next : System) (more : List (Command × Reply)) (t : State) → Runs state_of Between f steps next
      → IsPrefix state_of Between next more t → IsPrefix state_of Between f (steps ++ more) t
  prefix_after f steps next more t ran is = record {
    answered = steps ++ is.answered;
    rest = is.rest;
    parts = ap (λ (l : List (Command × Reply)). steps ++ l) is.parts ∙ sym (append_assoc steps is.answered is.rest);
    now = is.now;
    ran = runs_append f steps next is.answered is.now ran is.ran;
    goes_on = is.goes_on;
    leaves = is.leaves;
  }

  -- the state of a system where commands are to come
  prefix_now : (f : System) (steps : List (Command × Reply)) (t : State) → (state_of f).mark ≡ going → t ≡ state_of f → IsPrefix state_of Between f steps t
  prefix_now f steps t is same = prefix_first state_of Between f steps t is (subst (λ (v : State). IsUnderWay (state_of f) steps v) (sym same) (under_way_now (state_of f) steps))

module _ {System : Type 0} (state_of : System → State) (Settles : System → System → Type 0) (Between BetweenWaiting : System → Command → System → Circumstances → Type 0) where
  -- a failed system stays failed
  pub batch_failed : (f : System) (batch : Batch) (next : System) → LeadsBatch state_of Settles Between BetweenWaiting f batch next → (state_of f).mark ≡ failed → (state_of next).mark ≡ failed
  batch_failed f (alone step) next leads is = stays_failed state_of Between f next step leads is
  batch_failed f (together steps) next leads is = let e : going ≡ failed = sym leads.was.began ∙ is in cc
  batch_failed f (lost steps) next leads is = let e : going ≡ failed = sym leads.was.began ∙ is in cc

  runs_failed : (f : System) (batches : List Batch) (now : System) → RunsBatches state_of Settles Between BetweenWaiting f batches now → (state_of f).mark ≡ failed → (state_of now).mark ≡ failed
  runs_failed f [] now ran is = ap (λ (g : System). (state_of g).mark) ran ∙ is
  runs_failed f (batch ∷ batches) now ran is = runs_failed ran.0 batches now ran.2 (batch_failed f batch ran.0 ran.1 is)

  -- what stands before a batch may stand while it is under way
  pub stands_first : (f : System) (batch : Batch) (next : System) (leads : LeadsBatch state_of Settles Between BetweenWaiting f batch next) → (state_of f).mark ≡ going
      → MayStandWhole state_of Settles Between BetweenWaiting f batch next leads (state_of f)
  stands_first f (alone step) next leads is = stands_before (state_of f) step.0 (state_of next) is
  stands_first f (together steps) next leads is = inl refl
  stands_first f (lost steps) next leads is = inl refl

  -- all commands that waited were done
  prefix_done : (f : System) (steps more : List (Command × Reply)) (t : State) (was : HasDone state_of Settles Between BetweenWaiting f steps) → t ≡ state_of was.done
      → IsPrefix state_of BetweenWaiting f (steps ++ more) t
  prefix_done f steps more t was same = prefix_after state_of BetweenWaiting f steps was.done more t was.ran (prefix_now state_of BetweenWaiting was.done more t was.goes_on same)

  -- no batch is durable
  pub batches_first : (f : System) (batches : List Batch) (t : State) → (state_of f).mark ≡ going → IsWhole state_of Settles Between BetweenWaiting f batches t
      → IsPrefixOfBatches state_of Settles Between BetweenWaiting f batches t
  batches_first f batches t goes_on is = record { durable = []; rest = batches; parts = refl; now = f; ran = refl; goes_on = goes_on; leaves = is }

  -- a prefix of the rest, behind one batch
  pub batches_behind : (f next : System) (batch : Batch) (batches : List Batch) (t : State) → LeadsBatch state_of Settles Between BetweenWaiting f batch next
      → IsPrefixOfBatches state_of Settles Between BetweenWaiting next batches t → IsPrefixOfBatches state_of Settles Between BetweenWaiting f (batch ∷ batches) t
  batches_behind f next batch batches t leads is = record {
    durable = batch ∷ is.durable;
    rest = is.rest;
    parts = ap (λ (l : List Batch). batch ∷ l) is.parts;
    now = is.now;
    ran = (next, leads, is.ran);
    goes_on = is.goes_on;
    leaves = is.leaves;
  }

  -- where all is steady
  module _ (steady : AreSteady state_of Settles Between BetweenWaiting) where
    leads_waiting : (f : System) (step : Command × Reply) (next : System) → Leads state_of Between f step next → Leads state_of BetweenWaiting f step next
    leads_waiting f step next leads = record { circumstances = leads.circumstances; between = steady.waits f next step.0 leads.circumstances leads.between; allowed = leads.allowed }

    -- a run ends before a system of its last state
    pub record RunsUntil (f : System) (steps : List (Command × Reply)) (now : System) : Type 0 where
      pub last : System
      pub ran : Runs state_of BetweenWaiting f steps last
      pub settles : Settles last now
      pub same : state_of now ≡ state_of last

    -- so it does from before its first system
    until_before : (f g : System) (steps : List (Command × Reply)) (now : System) → Settles f g → state_of g ≡ state_of f → RunsUntil g steps now → RunsUntil f steps now
    until_before f g [] now settles same is = record {
      last = f;
      ran = refl;
      settles = steady.twice f g now settles (subst (λ (h : System). Settles h now) is.ran is.settles);
      same = subst (λ (h : System). state_of now ≡ state_of h) is.ran is.same ∙ same;
    }
    until_before f g (step ∷ steps) now settles same is = record { last = is.last; ran = (is.ran.0, steady.before f g is.ran.0 step settles same is.ran.1, is.ran.2); settles = is.settles; same = is.same }

    until_behind : (f next : System) (steps more : List (Command × Reply)) (now : System) → Runs state_of BetweenWaiting f steps next → RunsUntil next more now → RunsUntil f (steps ++ more) now
    until_behind f next steps more now ran is = record { last = is.last; ran = runs_append state_of BetweenWaiting f steps next more is.last ran is.ran; settles = is.settles; same = is.same }

    -- batches that lead to a going system are a run of their commands
    pub runs_through : (f : System) (batches : List Batch) (now : System) → RunsBatches state_of Settles Between BetweenWaiting f batches now → (state_of now).mark ≡ going
        → RunsUntil f (all_steps batches) now
    runs_through f [] now ran is = record { last = f; ran = refl; settles = subst (λ (g : System). Settles f g) (sym ran) (steady.none f); same = ap state_of ran }
    runs_through f (alone step ∷ batches) now ran is =
        until_behind f ran.0 (step ∷ []) (all_steps batches) now (ran.0, leads_waiting f step ran.0 ran.1, refl) (runs_through ran.0 batches now ran.2 is)
    runs_through f (together steps ∷ batches) now ran is =
        let was = ran.1.was in
        until_behind f was.done steps (all_steps batches) now was.ran (until_before was.done ran.0 (all_steps batches) now ran.1.settles ran.1.same (runs_through ran.0 batches now ran.2 is))
    runs_through f (lost steps ∷ batches) now ran is =
        let ends : (state_of now).mark ≡ failed = runs_failed ran.0 batches now ran.2 (ap (λ (s : State). s.mark) ran.1.failed) in
        let e : going ≡ failed = sym is ∙ ends in cc

    -- what may be left of batches that are to come
    whole_prefix : (f : System) (batches : List Batch) (t : State) → (state_of f).mark ≡ going → IsWhole state_of Settles Between BetweenWaiting f batches t
        → IsPrefix state_of BetweenWaiting f (all_steps batches) t
    whole_prefix f [] t is whole = prefix_now state_of BetweenWaiting f [] t is whole
    whole_prefix f (alone step ∷ batches) t is whole = stands_prefix state_of BetweenWaiting f whole.0 step (all_steps batches) t (leads_waiting f step whole.0 whole.1) is whole.2
    whole_prefix f (together steps ∷ batches) t is whole =
        let leads = whole.1 in
        elim whole.2 [
          | inl before ↦ prefix_now state_of BetweenWaiting f (steps ++ all_steps batches) t is before
          | inr after ↦ prefix_done f steps (all_steps batches) t leads.was (after ∙ leads.same)
        ]
    whole_prefix f (lost steps ∷ batches) t is whole = elim whole.2 [
      | inl before ↦ prefix_now state_of BetweenWaiting f (steps ++ all_steps batches) t is before
      | inr after ↦ prefix_done f steps (all_steps batches) t whole.1.was after
    ]

    -- a prefix of batches is one of their commands
    pub batches_prefix : (f : System) (batches : List Batch) (t : State) → IsPrefixOfBatches state_of Settles Between BetweenWaiting f batches t → IsPrefix state_of BetweenWaiting f (all_steps batches) t
    batches_prefix f batches t is =
        let through = runs_through f is.durable is.now is.ran is.goes_on in
        let goes_on : (state_of through.last).mark ≡ going = ap (λ (s : State). s.mark) (sym through.same) ∙ is.goes_on in
        let rest = whole_prefix is.now is.rest t is.goes_on is.leaves in
        let until = until_before through.last is.now rest.answered rest.now through.settles through.same (record { last = rest.now; ran = rest.ran; settles = steady.none rest.now; same = refl }) in
        subst (λ (l : List (Command × Reply)). IsPrefix state_of BetweenWaiting f l t) (sym (ap all_steps is.parts ∙ all_steps_append is.durable is.rest))
        (prefix_after state_of BetweenWaiting f (all_steps is.durable) through.last (all_steps is.rest) t through.ran (record {
          answered = rest.answered;
          rest = rest.rest;
          parts = rest.parts;
          now = until.last;
          ran = until.ran;
          goes_on = ap (λ (s : State). s.mark) (sym until.same) ∙ rest.goes_on;
          leaves = subst (λ (s : State). IsUnderWay s rest.rest t) until.same rest.leaves;
        }))
