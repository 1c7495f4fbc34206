-- The word of data is read back as it.
use Rattle.std.proofs.Common.{◌≡◌, ◌<◌, ◌+◌, ◌*◌, ◌/◌, ◌%◌, ◌==◌, ℕ, zero, suc, true, false, List, [], ◌∷◌, length, slice_index, Some, unwrap_or, Ok, Err, ◌⊎◌, inl, inr, codes, arith, refl, sym, ◌∙◌, ap, subst}
use Rattle.std.specs.Char.{is_ascii_uppercase}
use Rattle.std.specs.List.{list_any, AllPass}
use Rattle.std.proofs.lemmas.Bool.{eqb-true}
use Rattle.std.proofs.lemmas.Bool.Decides.{nat_tests}
use Rattle.std.proofs.lemmas.List.Elements.{All-cons, All-head, All-nil, All-tail}
use Rattle.std.proofs.lemmas.List.Folds.{list_any_at}
use Rattle.hex.specs.Hex.{decode_of, encode_lower, encode_with, hex_digit_value, is_hex_digit, lower_digits}
use Rattle.hex.specs.Hex as hex
use Rattle.hex.specs.declared.error.FromHexError.{FromHexError}
use Rattle.hex.specs.declared.error.FromHexError.TheVariants.{OutOfMemory}
use Rattle.hex.proofs.HexLemmas.{decode_of-encode_lower, decode_of-ok, decode_of-same, length-encode_with, IsDigits-lower_digits}
use Rattle.script.specs.Words.{data_word, AreByteValues}

hex_bytes : (bs : List ℕ) → AreByteValues bs → hex.IsBytes bs
hex_bytes [] good i = omega arith
hex_bytes (b ∷ bs) good zero = All-head (λ x. x < 256) b bs good
hex_bytes (b ∷ bs) good (suc i) = hex_bytes bs (All-tail (λ x. x < 256) b bs good) i

-- what hexadecimal digits decode to
pub decoded : (word bs : List ℕ) → AreByteValues bs → word ≡ encode_lower bs → decode_of word ≡ Ok bs
decoded word bs good e = ap decode_of e ∙ decode_of-encode_lower bs (hex_bytes bs good)

-- no lower-case digit is a capital letter
no_capital : (v : ℕ) → v < 16 → is_ascii_uppercase (slice_index lower_digits v) ≡ false
no_capital v small = grind (arith, list_any_at is_ascii_uppercase lower_digits v 0 small)

-- nor has the word of bytes any
pub encoded : (bs : List ℕ) → AreByteValues bs → list_any is_ascii_uppercase (encode_lower bs) ≡ false
unfolding encode_with
encoded [] good = refl
encoded (b ∷ bs) good =
    let small : b < 256 = All-head (λ x. x < 256) b bs good in
    rw (no_capital (b / 16) (omega arith), no_capital (b % 16) (omega arith)) (encoded bs (All-tail (λ x. x < 256) b bs good))

same_digit : (c d v : ℕ) → hex_digit_value c ≡ Some v → hex_digit_value d ≡ Some v → is_ascii_uppercase c ≡ false → is_ascii_uppercase d ≡ false → d ≡ c
same_digit c d v has_c has_d lower_c lower_d = grind (arith, nat_tests)

-- a digit that is no capital letter
digit_of : (c : ℕ) → is_hex_digit c ≡ true → is_ascii_uppercase c ≡ false → (v : ℕ) × (v < 16) × (slice_index lower_digits v ≡ c)
digit_of c digit lower =
    let v = unwrap_or (hex_digit_value c) 0 in
    let is : hex_digit_value c ≡ Some v = grind (arith, digit) in
    let small : v < 16 = grind (arith, is) in
    (v, small, same_digit c (slice_index lower_digits v) v is (IsDigits-lower_digits v small) lower (no_capital v small))

-- pairs of digits with no capital letter among them are the word of bytes
digits_word : (word : List ℕ) → length word % 2 ≡ 0 → AllPass is_hex_digit word → list_any is_ascii_uppercase word ≡ false → (bs : List ℕ) × AreByteValues bs × (word ≡ encode_lower bs)
unfolding encode_with
digits_word [] even digits lower = ([], All-nil (λ x. x < 256), refl)
digits_word (a ∷ []) even digits lower = absurd (omega arith)
digits_word (a ∷ b ∷ rest) even digits lower =
    let tail = All-tail (λ c. is_hex_digit c ≡ true) a (b ∷ rest) digits in
    let high = digit_of a (All-head (λ c. is_hex_digit c ≡ true) a (b ∷ rest) digits) (grind (arith, lower)) in
    let low = digit_of b (All-head (λ c. is_hex_digit c ≡ true) b rest tail) (grind (arith, lower)) in
    let behind = digits_word rest (omega arith) (All-tail (λ c. is_hex_digit c ≡ true) b rest tail) (grind (arith, lower)) in
    let h : (high.0 * 16 + low.0) / 16 ≡ high.0 = omega (arith, low.1) in
    let l : (high.0 * 16 + low.0) % 16 ≡ low.0 = omega (arith, low.1) in (
      (high.0 * 16 + low.0) ∷ behind.0,
      All-cons (λ x. x < 256) (high.0 * 16 + low.0) behind.0 (omega (arith, high.1, low.1)) behind.1,
      rw (h, l, high.2, low.2, ← behind.2) refl,
    )

some_word : (word bs : List ℕ) → (length word == 0) ≡ false → word ≡ encode_lower bs → word ≡ data_word bs
unfolding encode_with
some_word word [] some e = let none : (length word == 0) ≡ true = ap (λ (l : List ℕ). length l == 0) e in absurd (cc)
some_word word (b ∷ bs) some e = e

-- a word with no capital letter is that of what it decodes to
pub is_data : (word bs : List ℕ) → (length word == 0) ≡ false → list_any is_ascii_uppercase word ≡ false → decode_of word ≡ Ok bs → AreByteValues bs × (word ≡ data_word bs)
is_data word bs some lower is =
    let digits = decode_of-ok word bs is in
    let found = digits_word word digits.0 digits.1 lower in
    let same = decode_of-same word found.0 bs (decoded word found.0 found.1 found.2) is in
    (subst AreByteValues same found.1, some_word word bs some (found.2 ∙ ap encode_lower same))

-- one that isn't '-' and has none for its digits is that of no bytes
pub not_data : (word : List ℕ) → (word ≡ codes "-" → ⊥) → ((bs : List ℕ) → AreByteValues bs → word ≡ encode_lower bs → ⊥) → (bs : List ℕ) → AreByteValues bs → word ≡ data_word bs → ⊥
not_data word none other [] good e = none e
not_data word none other (b ∷ bs) good e = other (b ∷ bs) good e

-- nor is one with a capital letter, or an empty one
pub not_lower : (word : List ℕ) → list_any is_ascii_uppercase word ≡ true → (bs : List ℕ) → AreByteValues bs → word ≡ encode_lower bs → ⊥
not_lower word capital bs good e = let lower : list_any is_ascii_uppercase word ≡ false = ap (list_any is_ascii_uppercase) e ∙ encoded bs good in absurd (cc)

pub not_empty : (word bs : List ℕ) → (length word == 0) ≡ true → word ≡ data_word bs → ⊥
unfolding encode_with
not_empty word [] none e = let empty = eqb-true (length word) 0 none in omega (arith, empty, ap length e)
not_empty word (b ∷ bs) none e = let empty = eqb-true (length word) 0 none in omega (arith, empty, ap length e, length-encode_with lower_digits (b ∷ bs))

-- nor is one that can't be decoded
pub not_decoded : (word bs : List ℕ) (error : FromHexError) → decode_of word ≡ Ok bs → (error ≡ OutOfMemory → ⊥) → (error ≡ OutOfMemory) ⊎ (decode_of word ≡ Err error) → ⊥
not_decoded word bs error is memory (inl e) = memory e
not_decoded word bs error is memory (inr e) = let both : Ok bs ≡ Err error = sym is ∙ e in absurd (cc)
