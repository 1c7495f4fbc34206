-- Each text has one word, and a word's bytes are read off it one after the other.
use Rattle.std.proofs.Common.{◌≡◌, ℕ, ◌/◌, ◌%◌, ◌<◌, Bool, true, false, List, [], ◌∷◌, ◌++◌, codes, cond, arith, refl, sym, ◌∙◌, append_assoc}
use Rattle.std.specs.List.{flat_map}
use Rattle.std.proofs.lemmas.List.Elements.{All-head, All-tail}
use Rattle.script.specs.Words.{is_plain, hex_digit, byte_word, text_word, AreByteValues}

first_byte : (b : ℕ) (bs : List ℕ) → AreByteValues (b ∷ bs) → b < 256
first_byte b bs h = All-head (λ x. x < 256) b bs h

other_bytes : (b : ℕ) (bs : List ℕ) → AreByteValues (b ∷ bs) → AreByteValues bs
other_bytes b bs h = All-tail (λ x. x < 256) b bs h

hex_digit-unique : (v w : ℕ) → v < 16 → w < 16 → hex_digit v ≡ hex_digit w → v ≡ w
hex_digit-unique v w lv lw e = grind (arith, e)

-- a byte's word, by whether it is plain
abbrev word_by : Bool → ℕ → List ℕ
word_by plain b = cond plain (b ∷ []) (37 ∷ hex_digit (b / 16) ∷ hex_digit (b % 16) ∷ [])

word_by-unique : (p q : Bool) (a b : ℕ) (r s : List ℕ) → a < 256 → b < 256 → is_plain a ≡ p → is_plain b ≡ q → word_by p a ++ r ≡ word_by q b ++ s → (a ≡ b) × (r ≡ s)
word_by-unique true true a b r s la lb pa pb e = grind (arith, e)
word_by-unique true false a b r s la lb pa pb e = grind (arith, e, pa)
word_by-unique false true a b r s la lb pa pb e = grind (arith, e, pb)
word_by-unique false false a b r s la lb pa pb e =
    let high : hex_digit (a / 16) ≡ hex_digit (b / 16) = grind (arith, e) in
    let low : hex_digit (a % 16) ≡ hex_digit (b % 16) = grind (arith, e) in
    let rest : r ≡ s = grind (arith, e) in
    let highs = hex_digit-unique (a / 16) (b / 16) (omega (arith, la)) (omega (arith, lb)) high in
    let lows = hex_digit-unique (a % 16) (b % 16) (omega arith) (omega arith) low in
    (omega (arith, highs, lows), rest)

-- no byte's word begins another's
pub byte_word-unique : (a b : ℕ) (r s : List ℕ) → a < 256 → b < 256 → byte_word a ++ r ≡ byte_word b ++ s → (a ≡ b) × (r ≡ s)
byte_word-unique a b r s la lb e = word_by-unique (is_plain a) (is_plain b) a b r s la lb refl refl e

-- a byte's word isn't empty
pub byte_word_not_empty : (b : ℕ) (r : List ℕ) → byte_word b ++ r ≡ [] → ⊥
byte_word_not_empty b r e = grind (arith, e)

-- what follows the words of some bytes in a text's word is a text's word itself
pub words_behind : (bs : List ℕ) (rest text : List ℕ) → AreByteValues bs → AreByteValues text → flat_map byte_word bs ++ rest ≡ flat_map byte_word text → (more : List ℕ) × AreByteValues more × (rest ≡ flat_map byte_word more)
words_behind [] rest text lb lt e = (text, lt, e)
words_behind (b ∷ bs) rest [] lb lt e = absurd (byte_word_not_empty b (flat_map byte_word bs ++ rest) (sym (append_assoc (byte_word b) (flat_map byte_word bs) rest) ∙ e))
words_behind (b ∷ bs) rest (c ∷ text) lb lt e =
    let one = byte_word-unique b c (flat_map byte_word bs ++ rest) (flat_map byte_word text) (first_byte b bs lb) (first_byte c text lt) (sym (append_assoc (byte_word b) (flat_map byte_word bs) rest) ∙ e) in
    words_behind bs rest text (other_bytes b bs lb) (other_bytes c text lt) one.1

flat_map_word-unique : (t u : List ℕ) → AreByteValues t → AreByteValues u → flat_map byte_word t ≡ flat_map byte_word u → t ≡ u
flat_map_word-unique [] [] lt lu e = refl
flat_map_word-unique [] (c ∷ u) lt lu e = absurd (byte_word_not_empty c (flat_map byte_word u) (sym e))
flat_map_word-unique (b ∷ t) [] lt lu e = absurd (byte_word_not_empty b (flat_map byte_word t) e)
flat_map_word-unique (b ∷ t) (c ∷ u) lt lu e =
    let one = byte_word-unique b c (flat_map byte_word t) (flat_map byte_word u) (first_byte b t lt) (first_byte c u lu) e in
    grind (arith, one.0, flat_map_word-unique t u (other_bytes b t lt) (other_bytes c u lu) one.1)

-- the word of a byte and what stands behind it isn't '%' alone
byte_word_not_percent : (b : ℕ) (r : List ℕ) → byte_word b ++ r ≡ codes "%" → ⊥
byte_word_not_percent b r e = grind (arith, e)

-- a text has one word
pub text_word-unique : (t u : List ℕ) → AreByteValues t → AreByteValues u → text_word t ≡ text_word u → t ≡ u
text_word-unique [] [] lt lu e = refl
text_word-unique [] (c ∷ u) lt lu e = absurd (byte_word_not_percent c (flat_map byte_word u) (sym e))
text_word-unique (b ∷ t) [] lt lu e = absurd (byte_word_not_percent b (flat_map byte_word t) e)
text_word-unique (b ∷ t) (c ∷ u) lt lu e = flat_map_word-unique (b ∷ t) (c ∷ u) lt lu e

-- a text isn't read where no byte's word begins what is left of a word
pub not_a_text : (word bytes rest : List ℕ) → (word ≡ codes "%" → ⊥) → AreByteValues bytes → flat_map byte_word bytes ++ rest ≡ word → (rest ≡ [] → ⊥) → ((b : ℕ) (more : List ℕ) → b < 256 → byte_word b ++ more ≡ rest → ⊥)
    → (text : List ℕ) → AreByteValues text → word ≡ text_word text → ⊥
not_a_text word bytes rest percent lb split left none [] lt e = percent e
not_a_text word bytes rest percent lb split left none (t ∷ text) lt e = left_over rest left none (words_behind bytes rest (t ∷ text) lb lt (split ∙ e))
  where
    left_over : (rest : List ℕ) → (rest ≡ [] → ⊥) → ((b : ℕ) (more : List ℕ) → b < 256 → byte_word b ++ more ≡ rest → ⊥) → (more : List ℕ) × AreByteValues more × (rest ≡ flat_map byte_word more) → ⊥
    left_over rest left none ([], lm, e) = left e
    left_over rest left none (b ∷ more, lm, e) = none b (flat_map byte_word more) (first_byte b more lm) (sym e)
