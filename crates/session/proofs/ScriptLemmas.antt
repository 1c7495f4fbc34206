-- The lines of a script: its commands, and the first that is none.
use Rattle.std.proofs.Common.{◌≡◌, ℕ, zero, suc, ◌<◌, Bool, true, false, not, cond, List, [], ◌∷◌, ◌++◌, All, length, map, get_or, take, drop, arith, refl, sym, ◌∙◌, ap, subst, append_assoc, add-one, drop-cons, ◌+◌}
use Rattle.std.proofs.lemmas.List.{append_cancel_right, length-map, map-append, take-append-drop}
use Rattle.std.proofs.lemmas.List.Elements.{All-append, All-cons, All-head, All-nil, All-tail, filter-append}
use Rattle.std.specs.List.{drop-map}
use Rattle.std.specs.Prelude.{Some}
use Rattle.model.specs.declared.command.Command.{Command}
use Rattle.script.specs.Lines.{command_line, IsCommandInForm}
use Rattle.session.specs.Scripts.{is_skipped, lines_kept, AreCommandsOf, IsBadLine, IsFirstBadLine, IsLineOf}

got : {X : Type 0} (v : X → List ℕ) (xs : List X) (i : ℕ) (d : X) (e : List ℕ) → i < length xs → get_or (map v xs) i e ≡ v (get_or xs i d)
got v [] i d e within = absurd (omega (arith, within))
got v (x ∷ xs) zero d e within = refl
got v (x ∷ xs) (suc i) d e within = got v xs i d e (omega (arith, within))

-- where the lines before line i are some commands, and line i is bad
pub is_first_bad : {X : Type 0} (v : X → List ℕ) (xs : List X) (d : X) (lines : List (List ℕ)) (i : ℕ) (commands : List Command) → map v xs ≡ lines → i < length xs → IsBadLine (v (get_or xs i d)) → All IsCommandInForm commands
    → map command_line commands ++ lines_kept (map v (drop i xs)) ≡ lines_kept lines → IsFirstBadLine lines i
is_first_bad v xs d lines i commands are within bad bounded before = subst (λ ls. IsFirstBadLine ls i) are (record {
  within = omega (arith, within, length-map xs v);
  bad = subst IsBadLine (sym (got v xs i d [] within)) bad;
  before = (
    commands,
    record {
      bounded = bounded;
      spelled = append_cancel_right (map command_line commands) (lines_kept (take i (map v xs))) (lines_kept (map v (drop i xs))) (before ∙ sym (ap lines_kept are) ∙ sym (ap lines_kept (take-append-drop i (map v xs))) ∙ filter-append (λ line. not (is_skipped line)) (take i (map v xs)) (drop i (map v xs)) ∙ ap (λ ls. lines_kept (take i (map v xs)) ++ lines_kept ls) (drop-map v i xs));
    },
  );
})

-- a line more, where those behind it have no bad one
one_more : (s : Bool) (l : List ℕ) (ls : List (List ℕ)) (commands : List Command) → is_skipped l ≡ s → All IsCommandInForm commands → map command_line commands ≡ cond (not s) (l ∷ lines_kept ls) (lines_kept ls)
    → ((cs : List Command) → All IsCommandInForm cs → map command_line cs ≡ lines_kept ls → (j : ℕ) → j < length ls → IsBadLine (get_or ls j []) → ⊥) → (i : ℕ) → i < length (l ∷ ls) → IsBadLine (get_or (l ∷ ls) i []) → ⊥
one_more true l ls commands e bounded spelled none zero within bad = absurd (grind (arith, e, bad.kept))
one_more true l ls commands e bounded spelled none (suc i) within bad = none commands bounded spelled i (omega (arith, within)) bad
one_more false l ls [] e bounded spelled none i within bad = absurd (grind (arith, spelled))
one_more false l ls (c ∷ cs) e bounded spelled none zero within bad = bad.none c (All-head IsCommandInForm c cs bounded) (grind (arith, spelled))
one_more false l ls (c ∷ cs) e bounded spelled none (suc i) within bad = none cs (All-tail IsCommandInForm c cs bounded) (grind (arith, spelled)) i (omega (arith, within)) bad

none_bad : (lines : List (List ℕ)) (commands : List Command) → All IsCommandInForm commands → map command_line commands ≡ lines_kept lines → (i : ℕ) → i < length lines → IsBadLine (get_or lines i []) → ⊥
none_bad [] commands bounded spelled i within bad = absurd (omega (arith, within))
none_bad (l ∷ ls) commands bounded spelled i within bad = one_more (is_skipped l) l ls commands refl bounded spelled (λ cs. none_bad ls cs) i within bad

-- where lines are commands, none of them is bad
pub no_bad_line : (lines : List (List ℕ)) (commands : List Command) → AreCommandsOf lines commands → (i : ℕ) → i < length lines → IsBadLine (get_or lines i []) → ⊥
no_bad_line lines commands are i within bad = none_bad lines commands are.bounded are.spelled i within bad

kept_line : (l : List ℕ) (ls : List (List ℕ)) → is_skipped l ≡ false → lines_kept (l ∷ ls) ≡ l ∷ lines_kept ls
kept_line l ls kept = ap (λ s. cond (not s) (l ∷ lines_kept ls) (lines_kept ls)) kept

-- line i of these is read as one command more
pub one_read : {X : Type 0} (v : X → List ℕ) (xs : List X) (d : X) (all : List (List ℕ)) (i : ℕ) (commands : List Command) (command : Command) → i < length xs → IsLineOf (v (get_or xs i d)) (Some command) → All IsCommandInForm commands
    → map command_line commands ++ lines_kept (map v (drop i xs)) ≡ all → All IsCommandInForm (commands ++ command ∷ []) × (map command_line (commands ++ command ∷ []) ++ lines_kept (map v (drop (i + 1) xs)) ≡ all)
one_read v xs d all i commands command within (kept, form, is) bounded so_far =
    let rest = lines_kept (map v (drop (i + 1) xs)) in
    let here : drop i xs ≡ get_or xs i d ∷ drop (i + 1) xs = rw (add-one, drop-cons xs i d) refl in
    let line : lines_kept (map v (drop i xs)) ≡ command_line command ∷ rest = ap (λ ls. lines_kept (map v ls)) here ∙ kept_line (v (get_or xs i d)) (map v (drop (i + 1) xs)) kept ∙ ap (λ l. l ∷ rest) is in (
      All-append IsCommandInForm commands (command ∷ []) bounded (All-cons IsCommandInForm command [] form (All-nil IsCommandInForm)),
      ap (λ l. l ++ rest) (map-append command_line commands (command ∷ [])) ∙ append_assoc (map command_line commands) (command_line command ∷ []) rest ∙ ap (λ l. map command_line commands ++ l) (sym line) ∙ so_far,
    )
