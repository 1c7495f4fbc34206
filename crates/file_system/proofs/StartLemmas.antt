-- Texts of paths that begin at a number.
use Rattle.std.proofs.Common.{is_some, ◌≡◌, ◌≢◌, ◌+◌, ◌%◌, ◌^◌, ◌<◌, ◌≤◌, inl, inr, ℕ, List, [], ◌∷◌, ◌++◌, length, drop, Bool, true, false, not, Option, Some, None, filter, get_or, refl, ap, ◌∙◌, arith, lt-ltb, slice_index, nat_lt}
use Rattle.std.specs.Prelude.{All, ◌&&◌, ◌||◌, ◌==◌, if◌then◌else◌}
use Rattle.std.specs.Fmt.{decimal}
use Rattle.std.specs.List.{list_any, slice_split}
use Rattle.std.specs.Str.Parse.{digits_value}
use Rattle.std.proofs.lemmas.Bool.{cases_eq, cond-true, ne_eqb}
use Rattle.std.proofs.lemmas.Bool.Decides.{nat_tests}
use Rattle.std.proofs.lemmas.Fmt.{decimal_by_steps, decimal_digit, decimal_is_IsNumeral, decimal_nonempty, first_decimal}
use Rattle.std.proofs.lemmas.List.Elements.{All-append, All-cons, All-nil, All-weaker}
use Rattle.std.proofs.lemmas.List.Folds.{list_any_none}
use Rattle.std.proofs.lemmas.List.Splits.{slice_split_at, slice_split_none}
use Rattle.model.specs.Paths.{IsName, Name, is_digit, is_empty, is_numeral, is_slash, number_named, parts, parts_behind, start_number}

-- ---- a numeral

abbrev IsDigitByte : ℕ → Type 0
IsDigitByte b = (48 ≤ b) × (b ≤ 57)

one_digit : (m : ℕ) → m < 10 → All IsDigitByte ((48 + m) ∷ [])
one_digit m small = All-cons IsDigitByte (48 + m) [] (omega arith, omega arith) (All-nil IsDigitByte)

all_digits : (n : ℕ) → n < 2 ^ 64 → All IsDigitByte (decimal n)
all_digits n lt =
    decimal_by_steps (λ _ ds. All IsDigitByte ds) one_digit (λ m ds some w. All-append IsDigitByte ds ((48 + m % 10) ∷ []) w (one_digit (m % 10) (omega arith))) n lt

is_digit_byte : (b : ℕ) → IsDigitByte b → not (is_digit b) ≡ false
is_digit_byte b is = grind (arith, nat_tests, is.0, is.1)

is_no_slash : (b : ℕ) → IsDigitByte b → is_slash b ≡ false
is_no_slash b is = ne_eqb b 47 (λ same. omega (arith, is.0, same))

-- no zero stands before others
no_zero : (n : ℕ) → n < 2 ^ 64 → (length (decimal n) == 1 || not (slice_index (decimal n) 0 == 48)) ≡ true
no_zero n lt = elim (cases_eq n 0) [
  | inl zero_is ↦ let one : decimal n ≡ 48 ∷ [] = ap decimal zero_is ∙ decimal_digit 0 (omega arith) in ap (λ (ds : List ℕ). length ds == 1 || not (slice_index ds 0 == 48)) one
  | inr other ↦ let first = first_decimal n (omega (arith, other)) lt in grind (arith, nat_tests, first)
]

pub numeral : (n : ℕ) → n < 2 ^ 64 → is_numeral (decimal n) ≡ true
numeral n lt =
    let some : is_empty (decimal n) ≡ false = ne_eqb (length (decimal n)) 0 (λ none. omega (arith, none, decimal_nonempty n lt)) in
    let digits : list_any (λ b. not (is_digit b)) (decimal n) ≡ false =
    list_any_none (λ b. not (is_digit b)) (decimal n) (All-weaker IsDigitByte (λ b. not (is_digit b) ≡ false) is_digit_byte (decimal n) (all_digits n lt)) in
    ap (λ (b : Bool). not b && not (list_any (λ b. not (is_digit b)) (decimal n)) && (length (decimal n) == 1 || not (slice_index (decimal n) 0 == 48))) some
    ∙ ap (λ (b : Bool). not b && (length (decimal n) == 1 || not (slice_index (decimal n) 0 == 48))) digits ∙ no_zero n lt

-- ---- the part that names a number

abbrev pub part_of : ℕ → Name
part_of n = 64 ∷ decimal n

pub named : (n : ℕ) → n < 2 ^ 32 → number_named (part_of n) ≡ Some n
named n lt =
    let wide : n < 2 ^ 64 = omega (arith, lt) in
    let value : digits_value 10 (decimal n) ≡ n = (decimal_is_IsNumeral n wide).1 in
    ap (λ (b : Bool). if b && nat_lt (digits_value 10 (decimal n)) (2 ^ 32) then Some (digits_value 10 (decimal n)) else None) (numeral n wide)
    ∙ ap (λ (k : ℕ). if nat_lt k (2 ^ 32) then Some k else None) value
    ∙ cond-true (nat_lt n (2 ^ 32)) (Some n) None (lt-ltb n (2 ^ 32) lt)

no_slashes : (n : ℕ) → n < 2 ^ 64 → All (λ b. is_slash b ≡ false) (part_of n)
no_slashes n lt = All-cons (λ b. is_slash b ≡ false) 64 (decimal n) refl (All-weaker IsDigitByte (λ b. is_slash b ≡ false) is_no_slash (decimal n) (all_digits n lt))

-- ---- a text that begins with it

-- a part with a byte is one
kept : (b : ℕ) (rest : Name) (behind : List Name) → filter (λ part. not (is_empty part)) ((b ∷ rest) ∷ behind) ≡ (b ∷ rest) ∷ filter (λ part. not (is_empty part)) behind
kept b rest behind =
    let left = filter (λ (part : Name). not (is_empty part)) behind in
    cond-true (not (is_empty (b ∷ rest))) ((b ∷ rest) ∷ left) left (ap not (ne_eqb (length (b ∷ rest)) 0 (λ none. omega (arith, none))))

pub parts_alone : (n : ℕ) → n < 2 ^ 64 → parts (part_of n) ≡ part_of n ∷ []
parts_alone n lt = ap (filter (λ part. not (is_empty part))) (slice_split_none is_slash (part_of n) (no_slashes n lt)) ∙ kept 64 (decimal n) []

pub parts_on : (n : ℕ) (names : List ℕ) → n < 2 ^ 64 → parts (part_of n ++ 47 ∷ names) ≡ part_of n ∷ parts names
parts_on n names lt = ap (filter (λ part. not (is_empty part))) (slice_split_at is_slash (part_of n) 47 names (no_slashes n lt) refl) ∙ kept 64 (decimal n) (slice_split is_slash names)

pub name_alone : (name : Name) → IsName name → parts name ≡ name ∷ []
name_alone name is =
    let whole = slice_split_none is_slash name (All-weaker (λ byte. (byte ≢ 0) × (byte ≢ 47)) (λ b. is_slash b ≡ false) (λ b plain. ne_eqb b 47 plain.1) name is.plain) in
    ap (filter (λ part. not (is_empty part))) whole ∙ alone name is.some
  where
    alone : (name : Name) → 1 ≤ length name → filter (λ part. not (is_empty part)) (name ∷ []) ≡ name ∷ []
    alone [] some = absurd (omega (arith, some))
    alone (b ∷ name) some = kept b name []

abbrev first_part : List Name → Name
first_part ps = get_or ps 0 []

-- a text begins with an @, and its parts are the one of a number and those of the names behind
pub record Begins (n : ℕ) (names text : List ℕ) : Type 0 where
  pub first : slice_index text 0 ≡ 64
  pub are : parts text ≡ part_of n ∷ parts names

pub begins_alone : (n : ℕ) (names text : List ℕ) → n < 2 ^ 64 → length names ≡ 0 → text ≡ part_of n → Begins n names text
begins_alone n [] text lt none is = record { first = ap (λ (ts : List ℕ). slice_index ts 0) is; are = ap parts is ∙ parts_alone n lt }
begins_alone n (b ∷ names) text lt none is = absurd (omega (arith, none))

pub begins_on : (n : ℕ) (names text : List ℕ) → n < 2 ^ 64 → text ≡ part_of n ++ 47 ∷ names → Begins n names text
begins_on n names text lt is = record { first = ap (λ (ts : List ℕ). slice_index ts 0) is; are = ap parts is ∙ parts_on n names lt }

module _ (n : ℕ) (names text : List ℕ) (lt : n < 2 ^ 32) (begins : Begins n names text) where
  pub starts : start_number text ≡ Some n
  starts =
      ap (λ (b : ℕ). if is_slash b then None else number_named (first_part (parts text))) begins.first
      ∙ ap (λ (ps : List Name). number_named (first_part ps)) begins.are ∙ named n lt

  pub goes_on : parts_behind text ≡ parts names
  goes_on = ap (λ (o : Option ℕ). if is_some o then drop 1 (parts text) else parts text) starts ∙ ap (drop 1) begins.are
