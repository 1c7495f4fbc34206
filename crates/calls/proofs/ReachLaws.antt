-- Where texts lead that passed their tests.
use Rattle.std.proofs.Common.{◌≡◌, inl, inr, ℕ, Bool, true, false, ◌||◌, List, [], ◌∷◌, Option, Some, None, is_some, refl, sym, ap, subst}
use Rattle.std.proofs.lemmas.Bool.{cases_Bool, cond-true}
use Rattle.model.specs.declared.limits.Limits.{Limits}
use Rattle.model.specs.Finding.{IsPlaceAt}
use Rattle.model.specs.Paths.{Tests, first_refusal, is_dot, is_dot_dot, is_number_alone, last_part, new_text_tests, parts_behind, start_number, starts_with_slash, text_tests_then}
use Rattle.model.specs.Resolution.{Resolution, resolve}
use Rattle.model.specs.Trees.{IsTree, Tree}
use Rattle.model.specs.Volumes.{Volume}
use Rattle.model.specs.declared.errno.Errno.TheVariants.{EINVAL}
use Rattle.model.proofs.LeadLemmas.{AnswersWell, all_passed, not_alone, reached_well}
use Rattle.paths.specs.Places.{model_place_of}
use Rattle.paths.specs.Resolves.{LeadsUpNowhere}
use Rattle.paths.specs.Starts.{LeadsFrom, Reaches}
use Rattle.paths.specs.declared.place.Place.{Place}

-- where a text leads, at a place that was found
abbrev pub LeadsAt : Tree → Volume → Bool → List ℕ → Place → Type 0
LeadsAt t v follow text p = (r : Resolution) × Reaches t follow text r × IsPlaceAt v (model_place_of p) r

-- a text that names something to be made or taken away is no number alone
pub named_text : (limits : Limits) (text : List ℕ) → first_refusal (new_text_tests limits text) ≡ None → is_number_alone text ≡ false
named_text limits text passed = elim (cases_Bool (is_number_alone text)) [ inl alone ↦ absurd (not_alone limits text passed alone) | inr named ↦ named ]

-- no part leads up behind a number
pub level_then : (limits : Limits) (more : Tests) (text : List ℕ) → first_refusal (text_tests_then limits more text) ≡ None → LeadsUpNowhere text
level_then limits more text passed = (all_passed (text_tests_then limits more text) passed).1.1.1.1.1.1.0

pub level : (limits : Limits) (text : List ℕ) → first_refusal (new_text_tests limits text) ≡ None → LeadsUpNowhere text
level limits text passed = level_then limits ((is_dot (last_part text) || is_dot_dot (last_part text) || is_number_alone text, EINVAL) ∷ []) text passed

-- a text that begins with a slash begins at no number
pub from_root : (text : List ℕ) → starts_with_slash text ≡ true → start_number text ≡ None
from_root text slash = cond-true (starts_with_slash text) None _ slash

module _ (limits : Limits) (t : Tree) (tree : IsTree limits t) where
  -- where a text leads is there, or is a name that isn't in a directory that is
  pub reaches_well : (more : Tests) (follow : Bool) (text : List ℕ) → first_refusal (text_tests_then limits more text) ≡ None → (r : Resolution) → Reaches t follow text r → AnswersWell t r
  reaches_well more follow text passed r reaches = by (start_number text) refl reaches
    where
      by : (o : Option ℕ) → start_number text ≡ o → (elim o as (λ _. Type 0) [ None ↦ r ≡ resolve t follow text | Some n ↦ LeadsFrom t follow (parts_behind text) n r ]) → AnswersWell t r
      by None is to = reached_well limits t tree more follow text passed r (inl to)
      by (Some n) is (inl to) =
          reached_well limits t tree more follow text passed r (inr (record { number = n; path = to.path; starts = ap is_some is; stands = to.stands; is = to.is }))
      by (Some n) is (inr (inl to)) = subst (AnswersWell t) (sym to.is) tt
      by (Some n) is (inr (inr (inl to))) = subst (AnswersWell t) (sym to.is) tt
      by (Some n) is (inr (inr (inr to))) = subst (AnswersWell t) (sym to.is) tt

  pub new_text_well : (text : List ℕ) → first_refusal (new_text_tests limits text) ≡ None → (r : Resolution) → Reaches t false text r → AnswersWell t r
  new_text_well text passed r reaches = reaches_well ((is_dot (last_part text) || is_dot_dot (last_part text) || is_number_alone text, EINVAL) ∷ []) false text passed r reaches
