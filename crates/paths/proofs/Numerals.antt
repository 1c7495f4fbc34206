-- The number that a part of a text names.
use Rattle.std.proofs.Common.{◌≡◌, ◌<◌, ◌-◌, ◌^◌, ◌∙◌, ℕ, zero, suc, List, [], ◌∷◌, Bool, true, false, not, Option, Some, None, Result, Ok, Err, OkIff, drop, take, length, lt-ltb, ltb-true, refl, sym, ap, subst, arith, nat_lt, slice_index}
use Rattle.std.specs.Prelude.{◌&&◌, ◌||◌, ◌==◌, if◌then◌else◌}
use Rattle.std.proofs.lemmas.Bool.{cond-false, cond-true, false_from_ne_true}
use Rattle.std.proofs.lemmas.Bool.Decides.{nat_tests}
use Rattle.std.proofs.lemmas.List.{take_all}
use Rattle.std.proofs.lemmas.Str.{IsUtf8-from_ascii}
use Rattle.std.proofs.lemmas.Str.Parse.{IsDigitsTest, digit_from_value, numerals_by_value, parse_digits}
use Rattle.std.specs.Int.{IsInRange}
use Rattle.std.specs.List.{list_any}
use Rattle.std.specs.Result.{result_ok}
use Rattle.std.specs.Str.{IsAscii, IsUtf8}
use Rattle.std.specs.Str.Parse.{AllDigits, ParsesUnsigned, digits_value}
use Rattle.model.specs.Paths.{is_digit, is_numeral, number_named}

-- just decimal digits
abbrev AreDigits : List ℕ → Type 0
AreDigits ds = list_any (λ byte. not (is_digit byte)) ds ≡ false

first_digit : (c : ℕ) (others : Bool) → (not (is_digit c) || others) ≡ false → IsInRange 48 57 c
first_digit c others is = grind (arith, nat_tests, is)

other_digits : (c : ℕ) (others : Bool) → (not (is_digit c) || others) ≡ false → others ≡ false
other_digits c others is = grind (arith, nat_tests, is)

more_digits : (c : ℕ) (others : Bool) → IsInRange 48 57 c → others ≡ false → (not (is_digit c) || others) ≡ false
more_digits c others range is = grind (arith, nat_tests, range.0, range.1, is)

digits_test : IsDigitsTest AreDigits
digits_test = record {
  empty = refl;
  parts = λ c cs is. (first_digit c _ is, other_digits c _ is);
  more = λ c cs range is. more_digits c _ range is;
}

are_ascii : (ds : List ℕ) → AllDigits 10 ds → IsAscii ds
are_ascii [] all i = omega arith
are_ascii (c ∷ cs) all zero = omega (arith, digit_from_value c all.0)
are_ascii (c ∷ cs) all (suc i) = are_ascii cs all.1 i

has_digits : (ds : List ℕ) → is_numeral ds ≡ true → AreDigits ds
has_digits ds is = grind (arith, nat_tests, is)

has_some : (ds : List ℕ) → is_numeral ds ≡ true → 0 < length ds
has_some [] is = grind (arith, nat_tests, is)
has_some (c ∷ cs) is = omega arith

pub numeral_is_text : (ds : List ℕ) → is_numeral ds ≡ true → IsUtf8 ds
numeral_is_text ds is = IsUtf8-from_ascii ds (are_ascii ds ((numerals_by_value AreDigits digits_test).to ds (has_digits ds is)))

-- what the tests of a part come to, behind an @ and over a numeral
tests_left : (part : List ℕ) → slice_index part 0 ≡ 64 → is_numeral (drop 1 part) ≡ true
    → number_named part ≡ (if nat_lt (digits_value 10 (drop 1 part)) (2 ^ 32) then Some (digits_value 10 (drop 1 part)) else None)
tests_left part at is =
    ap (λ x. if (x == 64) && is_numeral (drop 1 part) && nat_lt (digits_value 10 (drop 1 part)) (2 ^ 32) then Some (digits_value 10 (drop 1 part)) else None) at
    ∙ ap (λ x. if x && nat_lt (digits_value 10 (drop 1 part)) (2 ^ 32) then Some (digits_value 10 (drop 1 part)) else None) is

fits_or_not : {E : Type 0} (v : ℕ) (some : Type 0) (r : Result ℕ E) → some → OkIff r (some × (v < 2 ^ 32)) v
    → result_ok r ≡ (if nat_lt v (2 ^ 32) then Some v else None)
fits_or_not v some (Ok n) has is = ap Some is.1 ∙ sym (cond-true (nat_lt v (2 ^ 32)) (Some v) None (lt-ltb v (2 ^ 32) is.0.1))
fits_or_not v some (Err e) has is = sym (cond-false (nat_lt v (2 ^ 32)) (Some v) None (false_from_ne_true _ (λ t. is (has, ltb-true v (2 ^ 32) t))))

whole_rest : (part : List ℕ) → take (length part - 1) (drop 1 part) ≡ drop 1 part
whole_rest [] = refl
whole_rest (c ∷ cs) = take_all (length (c ∷ cs) - 1) cs (omega arith)

pub number_read : {E : Type 0} (part text : List ℕ) (r : Result ℕ E) (o : Option ℕ) → slice_index part 0 ≡ 64 → text ≡ take (length part - 1) (drop 1 part)
    → is_numeral (take (length part - 1) (drop 1 part)) ≡ true → ParsesUnsigned 32 10 text r → o ≡ result_ok r → o ≡ number_named part
number_read part text r o at same is parses was =
    let ds : List ℕ = drop 1 part in
    let numeral : is_numeral ds ≡ true = subst (λ x. is_numeral x ≡ true) (whole_rest part) is in
    was
    ∙ fits_or_not (digits_value 10 ds) (0 < length ds) r (has_some ds numeral)
    (parse_digits (numerals_by_value AreDigits digits_test) 32 ds r (subst (λ t. ParsesUnsigned 32 10 t r) (same ∙ whole_rest part) parses) (has_digits ds numeral))
    ∙ sym (tests_left part at numeral)
