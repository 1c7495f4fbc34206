-- The parts of a text that passed its tests: each is a name, but for `.`, `..` and parts that are too long.
use Rattle.std.proofs.Common.{◌≡◌, ◌≢◌, ℕ, ◌≤◌, ◌==◌, ◌||◌, List, [], ◌∷◌, length, Bool, true, false, not, Option, Some, None, refl, sym, ap, ◌∙◌, arith}
use Rattle.std.specs.List.{list_any, slice_split, onto_first, filter, AllByRecursion}
use Rattle.std.proofs.lemmas.Bool.{cond_both, or_parts, eqb-false, ne_eqb, ltb-false, false≢true}
use Rattle.std.proofs.lemmas.List.Elements.{All-from_recursion, recursion_from_All}
use Rattle.model.specs.declared.limits.Limits.{Limits}
use Rattle.model.specs.declared.errno.Errno.{Errno}
use Rattle.model.specs.declared.errno.Errno.TheVariants.{ENOENT, EINVAL}
use Rattle.model.specs.Paths.{Name, IsName, IsLinkText, Tests, first_refusal, text_tests_then, parts, is_slash, is_empty, is_dot, is_dot_dot, is_too_long}
use Rattle.model.proofs.OptionLaws.{some_none}

abbrev IsPlain : ℕ → Type 0
IsPlain byte = (byte ≢ 0) × (byte ≢ 47)

-- a part of a text without a zero byte
abbrev pub IsPart : Name → Type 0
IsPart part = (1 ≤ length part) × AllByRecursion IsPlain part

onto : (x : ℕ) (names : List Name) → IsPlain x → AllByRecursion (AllByRecursion IsPlain) names → AllByRecursion (AllByRecursion IsPlain) (onto_first x names)
onto x [] here all = ((here, tt), tt)
onto x (part ∷ names) here all = ((here, all.0), all.1)

split_plain : (text : List ℕ) → list_any (λ byte. byte == 0) text ≡ false → AllByRecursion (AllByRecursion IsPlain) (slice_split is_slash text)
split_plain [] none = (tt, tt)
split_plain (x ∷ text) none =
    let each : (x == 0 ≡ false) × (list_any (λ byte. byte == 0) text ≡ false) = or_parts (x == 0) (list_any (λ byte. byte == 0) text) none in
    cond_both (is_slash x) ([] ∷ slice_split is_slash text) (onto_first x (slice_split is_slash text)) (AllByRecursion (AllByRecursion IsPlain)) (λ e. (tt, split_plain text each.1)) (λ e. onto x (slice_split is_slash text) (eqb-false x 0 each.0, eqb-false x 47 e) (split_plain text each.1))

filled : (part : Name) → not (is_empty part) ≡ true → 1 ≤ length part
filled [] e = cc
filled (x ∷ part) e = omega arith

kept : (names : List Name) → AllByRecursion (AllByRecursion IsPlain) names → AllByRecursion IsPart (filter (λ part. not (is_empty part)) names)
kept [] all = tt
kept (part ∷ names) all =
    cond_both (not (is_empty part)) (part ∷ filter (λ part. not (is_empty part)) names) (filter (λ part. not (is_empty part)) names) (AllByRecursion IsPart) (λ e. ((filled part e, all.0), kept names all.1)) (λ e. kept names all.1)

no_zero : (limits : Limits) (more : Tests) (text : List ℕ) → first_refusal (text_tests_then limits more text) ≡ None → list_any (λ byte. byte == 0) text ≡ false
no_zero limits more text =
    let zero : Bool = list_any (λ byte. byte == 0) text in
    cond_both (is_empty text) (Some ENOENT) _ (λ (o : Option Errno). o ≡ None → zero ≡ false) (λ e passed. some_none passed) (λ e.
    cond_both zero (Some EINVAL) _ (λ (o : Option Errno). o ≡ None → zero ≡ false) (λ f passed. some_none passed) (λ f passed. f))

pub passed_parts : (limits : Limits) (more : Tests) (text : List ℕ) → first_refusal (text_tests_then limits more text) ≡ None → AllByRecursion IsPart (parts text)
passed_parts limits more text passed = kept (slice_split is_slash text) (split_plain text (no_zero limits more text passed))

zeros_none : (text : List ℕ) → AllByRecursion (λ byte. byte ≢ 0) text → list_any (λ byte. byte == 0) text ≡ false
zeros_none [] all = refl
zeros_none (x ∷ text) all = ap (λ b. b || list_any (λ byte. byte == 0) text) (ne_eqb x 0 all.0) ∙ zeros_none text all.1

-- the parts of a link's text
pub linked_parts : (limits : Limits) (text : List ℕ) → IsLinkText limits.path_bytes text → AllByRecursion IsPart (parts text)
linked_parts limits text is = kept (slice_split is_slash text) (split_plain text (zeros_none text (recursion_from_All (λ byte. byte ≢ 0) text is.plain)))

pub part_is_name : (part : Name) → IsPart part → is_dot part ≡ false → is_dot_dot part ≡ false → is_too_long part ≡ false → IsName part
part_is_name part plain dot dots short = record {
  some = plain.0;
  short = ltb-false 255 (length part) short;
  plain = All-from_recursion IsPlain part plain.1;
  here = λ e. false≢true (sym dot ∙ ap is_dot e);
  above = λ e. false≢true (sym dots ∙ ap is_dot_dot e);
}
