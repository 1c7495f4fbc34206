-- A step of a walk along parts.
use Rattle.std.proofs.Common.{◌≡◌, ◌∙◌, ◌-◌, ℕ, Bool, false, List, ◌∷◌, Some, None, cond, length, take, refl, sym, ap, subst}
use Rattle.std.proofs.lemmas.Bool.{cond-false}
use Rattle.model.specs.Finding.{find_along, here, Turn, stays_on, finds_nothing, finds_long, turn, turn_at, turn_by}
use Rattle.model.specs.Paths.{Name, is_dot, is_dot_dot, is_too_long}
use Rattle.model.specs.Volumes.{Volume, entries}
use Rattle.paths.specs.Steps.{halt_after, after_turn}
use Rattle.paths.specs.declared.step.WalkStep.{WalkStep}

-- where a walk ends that took this step by its next part
pub stepped : (v : Volume) (follow : Bool) (first trail : List ℕ) (all parts rest : List Name) (name part : Name) (taken step : WalkStep)
    → find_along v follow first all ≡ find_along v follow trail parts → parts ≡ name ∷ rest → part ≡ name → taken ≡ step
    → halt_after v follow trail part rest taken ≡ find_along v follow trail (part ∷ rest) → halt_after v follow trail name rest step ≡ find_along v follow first all
stepped v follow first trail all parts rest name part taken step so_far next same is took =
    ap (λ p. halt_after v follow trail p rest step) (sym same) ∙ ap (halt_after v follow trail part rest) (sym is) ∙ took
    ∙ ap (λ p. find_along v follow trail (p ∷ rest)) same ∙ ap (find_along v follow trail) (sym next) ∙ sym so_far

-- a walk that takes a part that may be a name
module _ (v : Volume) (follow : Bool) (trail : List ℕ) (part : Name) (rest : List Name) (here_not : is_dot part ≡ false) (up_not : is_dot_dot part ≡ false) (short : is_too_long part ≡ false) where
  turn_is : turn v trail part ≡ turn_by v (entries v (here trail) part)
  turn_is =
      let by = turn_by v (entries v (here trail) part) in
      cond-false (is_dot part) (stays_on trail) (cond (is_dot_dot part) (stays_on (take (length trail - 1) trail)) (cond (is_too_long part) finds_long by)) here_not
      ∙ cond-false (is_dot_dot part) (stays_on (take (length trail - 1) trail)) (cond (is_too_long part) finds_long by) up_not
      ∙ cond-false (is_too_long part) finds_long by short

  turned : (t : Turn) → turn v trail part ≡ t → after_turn v follow trail part rest t ≡ find_along v follow trail (part ∷ rest)
  turned t is = subst (λ u. after_turn v follow trail part rest u ≡ find_along v follow trail (part ∷ rest)) is refl

  pub turned_to_nothing : entries v (here trail) part ≡ None → after_turn v follow trail part rest finds_nothing ≡ find_along v follow trail (part ∷ rest)
  turned_to_nothing none = turned finds_nothing (turn_is ∙ ap (turn_by v) none)

  pub turned_to : (n : ℕ) → entries v (here trail) part ≡ Some n → after_turn v follow trail part rest (turn_at n (v n)) ≡ find_along v follow trail (part ∷ rest)
  turned_to n some = turned (turn_at n (v n)) (turn_is ∙ ap (turn_by v) some)
