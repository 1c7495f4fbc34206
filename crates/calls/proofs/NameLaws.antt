-- The last part of a path's text that passed its tests.
use Rattle.std.proofs.Common.{◌≡◌, ◌≢◌, ℕ, suc, ◌-◌, ◌&&◌, ◌||◌, Bool, true, false, List, [], ◌∷◌, drop, length, get_or, None, refl, sym, ap, subst, ◌∙◌, arith}
use Rattle.std.specs.Prelude.{if◌then◌else◌}
use Rattle.std.proofs.lemmas.Bool.{false≢true, or_parts}
use Rattle.model.specs.declared.limits.Limits.{Limits}
use Rattle.model.specs.Paths.{Name, first_refusal, new_text_tests, parts, parts_behind, is_dot, is_dot_dot, is_empty, is_number_alone, is_root_text, last_part, starts_at_number}
use Rattle.model.specs.Resolution.{resolve_within}
use Rattle.model.specs.Trees.{root_alone}
use Rattle.model.specs.declared.limits.TheConstants.{LINKS_FOLLOWED}
use Rattle.model.proofs.LeadLemmas.{AnswersBelowRoot, all_passed, resolves_below_root}
use Rattle.paths.specs.Ends.{EndsInName}

back : (x y : Name) (rest : List Name) → get_or (x ∷ (y ∷ rest)) (length (x ∷ (y ∷ rest)) - 1) [] ≡ get_or (y ∷ rest) (length (y ∷ rest) - 1) []
back x y rest =
    let one : length (x ∷ (y ∷ rest)) - 1 ≡ suc (length (y ∷ rest) - 1) = omega arith in
    ap (λ k. get_or (x ∷ (y ∷ rest)) k []) one

last_is_name : (names : List Name) → names ≢ [] → is_dot (get_or names (length names - 1) []) ≡ false → is_dot_dot (get_or names (length names - 1) []) ≡ false → EndsInName names
last_is_name [] some dot dots = absurd (some refl)
last_is_name (x ∷ []) some dot dots = (dot, dots)
last_is_name (x ∷ (y ∷ rest)) some dot dots =
    let same = back x y rest in
    last_is_name (y ∷ rest) (λ (e : y ∷ rest ≡ []). cc) (ap is_dot (sym same) ∙ dot) (ap is_dot_dot (sym same) ∙ dots)

-- only `/` has no part: it leads to the root of any tree
some_part : (limits : Limits) (text : List ℕ) → first_refusal (new_text_tests limits text) ≡ None → is_root_text text ≡ false → parts text ≢ []
some_part limits text passed other none =
    let below = resolves_below_root limits (root_alone 0) text passed other in
    subst (λ (names : List Name). AnswersBelowRoot (resolve_within LINKS_FOLLOWED (root_alone 0) false [] names)) none below refl

-- what stands behind a number ends in a name, where all parts do
behind_ends : (begins : Bool) (names : List Name) → (begins && is_empty (if begins then drop 1 names else names)) ≡ false → EndsInName names → EndsInName (if begins then drop 1 names else names)
behind_ends false names some plain = plain
behind_ends true [] some plain = absurd plain
behind_ends true (x ∷ []) some plain = absurd (false≢true (sym some))
behind_ends true (x ∷ (y ∷ rest)) some plain = plain

-- a text that names something to be made or taken away, and isn't `/`, ends in a name
pub ends_in_name : (limits : Limits) (text : List ℕ) → first_refusal (new_text_tests limits text) ≡ None → is_root_text text ≡ false → EndsInName (parts_behind text)
ends_in_name limits text passed other =
    let last = or_parts (is_dot (last_part text) || is_dot_dot (last_part text)) (is_number_alone text) (all_passed (new_text_tests limits text) passed).1.1.1.1.1.1.1.0 in
    let dots = or_parts (is_dot (last_part text)) (is_dot_dot (last_part text)) last.0 in
    behind_ends (starts_at_number text) (parts text) last.1 (last_is_name (parts text) (some_part limits text passed other) dots.0 dots.1)
