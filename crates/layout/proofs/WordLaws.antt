-- Numbers of four bytes, one behind the other, and pointers.
use Rattle.std.proofs.Common.{◌≡◌, ℕ, zero, suc, ◌+◌, ◌-◌, ◌*◌, ◌^◌, ◌<◌, ◌≤◌, List, [], ◌∷◌, ◌++◌, length, get_or, take, drop, map, inl, inr, refl, sym, ap, ◌∙◌, append_assoc, arith}
use Rattle.std.specs.List.{AllByRecursion}
use Rattle.std.specs.Prelude.{All}
use Rattle.std.proofs.lemmas.List.{length-append, length-drop, length-take, length-map, drop-append-le, drop_at, drop-drop, same_lists, take-append-drop, take_more, map_push, append-nil}
use Rattle.std.proofs.lemmas.List.Elements.{All-head, All-tail}
use Rattle.std.proofs.lemmas.Bool.{cases_lt}
use Rattle.byteorder.specs.Numbers.{little_from-append}
use Rattle.layout.specs.Bytes.{little, number, IsBytes, Writes}
use Rattle.layout.specs.Pointer.{pointer_number, pointer_of, PointsBelow, words_bytes, words_in, pointers_bytes, pointers_in}
use Rattle.layout.specs.Maps.{word, indirect_pointer, SetsWord}
use Rattle.layout.specs.declared.pointer.Pointer.{Pointer}
use Rattle.layout.specs.declared.pointer.Pointer.TheVariants.{Hole, Block}
use Rattle.layout.proofs.NumberLaws.{length-little, number-spelled, number-little}
use Rattle.layout.proofs.Formats.{IsBytes-drop}

pub length-words_bytes : (words : List ℕ) → length (words_bytes words) ≡ 4 * length words
unfolding words_bytes
length-words_bytes [] = refl
length-words_bytes (word ∷ words) =
    omega (arith, length-append (little 4 word) (words_bytes words), length-little 4 word, length-words_bytes words)

pub length-words_in : (n : ℕ) (bytes : List ℕ) → length (words_in n bytes) ≡ n
unfolding words_in
length-words_in zero bytes = refl
length-words_in (suc n) bytes = ap suc (length-words_in n (drop 4 bytes))

-- what is read is spelled so
pub words_spelled : (n : ℕ) (bytes : List ℕ) → 4 * n ≤ length bytes → IsBytes bytes → bytes ≡ words_bytes (words_in n bytes) ++ drop (4 * n) bytes
unfolding words_bytes words_in
words_spelled zero bytes long fits = refl
words_spelled (suc n) bytes long fits =
    let front = number-spelled 4 bytes (omega arith) fits in
    let rest = words_spelled n (drop 4 bytes) (omega (arith, length-drop 4 bytes)) (IsBytes-drop 4 bytes fits) in
    let far : drop (4 * n) (drop 4 bytes) ≡ drop (4 * suc n) bytes = drop-drop (4 * n) 4 bytes ∙ ap (λ (k : ℕ). drop k bytes) (omega arith) in
    front
    ∙ ap (λ (r : List ℕ). little 4 (number 4 bytes) ++ r) (rest ∙ ap (λ (r : List ℕ). words_bytes (words_in n (drop 4 bytes)) ++ r) far)
    ∙ sym (append_assoc (little 4 (number 4 bytes)) (words_bytes (words_in n (drop 4 bytes))) (drop (4 * suc n) bytes))

-- what is spelled so is read
pub words_again : (words : List ℕ) (rest : List ℕ) → AllByRecursion (λ word. word < 2 ^ 32) words → words_in (length words) (words_bytes words ++ rest) ≡ words
unfolding words_bytes words_in
words_again [] rest fits = refl
words_again (word ∷ words) rest fits =
    let regrouped : words_bytes (word ∷ words) ++ rest ≡ little 4 word ++ (words_bytes words ++ rest) = append_assoc (little 4 word) (words_bytes words) rest in
    let first : number 4 (little 4 word ++ (words_bytes words ++ rest)) ≡ word = number-little 4 word (words_bytes words ++ rest) fits.0 in
    let behind : drop 4 (little 4 word ++ (words_bytes words ++ rest)) ≡ words_bytes words ++ rest = drop_at (little 4 word) (words_bytes words ++ rest) 4 (length-little 4 word) in
    ap (words_in (suc (length words))) regrouped ∙ rw (first, behind, words_again words rest fits.1) refl

pointers_at : (n : ℕ) (bytes : List ℕ) (k : ℕ) (d : Pointer) → k < n → get_or (pointers_in n bytes) k d ≡ pointer_of (number 4 (drop (4 * k) bytes))
unfolding words_in
pointers_at zero bytes k d lt = absurd (omega arith)
pointers_at (suc n) bytes zero d lt = refl
pointers_at (suc n) bytes (suc k) d lt =
    pointers_at n (drop 4 bytes) k d (omega arith) ∙ ap (λ (r : List ℕ). pointer_of (number 4 r)) (drop-drop (4 * k) 4 bytes ∙ ap (λ (j : ℕ). drop j bytes) (omega arith))

-- the end of a loop that reads pointers
pub pointers_read : (n : ℕ) (bytes : List ℕ) (pointers : List Pointer) → length pointers ≡ n
    → ((k : ℕ) (d : Pointer) → k < n → get_or pointers k d ≡ pointer_of (number 4 (drop (4 * k) bytes))) → pointers ≡ pointers_in n bytes
pointers_read n bytes pointers len each =
    let same : length pointers ≡ length (pointers_in n bytes) = omega (arith, len, length-map (words_in n bytes) pointer_of, length-words_in n bytes) in
    same_lists pointers (pointers_in n bytes) same (λ k d lt. let below : k < n = omega arith in each k d below ∙ sym (pointers_at n bytes k d below))

number-pointer_of : (n : ℕ) → pointer_number (pointer_of n) ≡ n
number-pointer_of zero = refl
number-pointer_of (suc n) = refl

numbers-pointers_of : (words : List ℕ) → map pointer_number (map pointer_of words) ≡ words
numbers-pointers_of [] = refl
numbers-pointers_of (word ∷ words) =
    ap (λ (w : ℕ). w ∷ map pointer_number (map pointer_of words)) (number-pointer_of word) ∙ ap (λ (ws : List ℕ). word ∷ ws) (numbers-pointers_of words)

pub pointers_spelled : (n : ℕ) (bytes : List ℕ) → 4 * n ≤ length bytes → IsBytes bytes → bytes ≡ pointers_bytes (pointers_in n bytes) ++ drop (4 * n) bytes
pointers_spelled n bytes long fits =
    words_spelled n bytes long fits ∙ ap (λ (words : List ℕ). words_bytes words ++ drop (4 * n) bytes) (sym (numbers-pointers_of (words_in n bytes)))

pointer_of-number : (blocks : ℕ) (p : Pointer) → PointsBelow blocks p → pointer_of (pointer_number p) ≡ p
pointer_of-number blocks Hole fits = refl
pointer_of-number blocks (Block b) fits =
    let positive : b ≡ suc (b - 1) = omega arith in
    ap pointer_of positive ∙ ap (λ (n : ℕ). Block n) (sym positive)

pointer_fits : (blocks : ℕ) (p : Pointer) → blocks ≤ 2 ^ 32 → PointsBelow blocks p → pointer_number p < 2 ^ 32
pointer_fits blocks Hole limit fits = omega arith
pointer_fits blocks (Block b) limit fits = omega arith

pointers_of-numbers : (blocks : ℕ) (ps : List Pointer) → All (PointsBelow blocks) ps → map pointer_of (map pointer_number ps) ≡ ps
pointers_of-numbers blocks [] fits = refl
pointers_of-numbers blocks (p ∷ ps) fits =
    let first = pointer_of-number blocks p (All-head (PointsBelow blocks) p ps fits) in
    let others = pointers_of-numbers blocks ps (All-tail (PointsBelow blocks) p ps fits) in
    ap (λ (q : Pointer). q ∷ map pointer_of (map pointer_number ps)) first ∙ ap (λ (qs : List Pointer). p ∷ qs) others

numbers_fit : (blocks : ℕ) (ps : List Pointer) → blocks ≤ 2 ^ 32 → All (PointsBelow blocks) ps → AllByRecursion (λ word. word < 2 ^ 32) (map pointer_number ps)
numbers_fit blocks [] limit fits = tt
numbers_fit blocks (p ∷ ps) limit fits =
    (pointer_fits blocks p limit (All-head (PointsBelow blocks) p ps fits), numbers_fit blocks ps limit (All-tail (PointsBelow blocks) p ps fits))

pub length-pointers_bytes : (ps : List Pointer) → length (pointers_bytes ps) ≡ 4 * length ps
length-pointers_bytes ps = omega (arith, length-words_bytes (map pointer_number ps), length-map ps pointer_number)

pub pointers_again : (n blocks : ℕ) (ps : List Pointer) (rest : List ℕ) → length ps ≡ n → blocks ≤ 2 ^ 32 → All (PointsBelow blocks) ps → pointers_in n (pointers_bytes ps ++ rest) ≡ ps
pointers_again n blocks ps rest len limit fits =
    let count : n ≡ length (map pointer_number ps) = omega (arith, length-map ps pointer_number, len) in
    ap (λ (k : ℕ). pointers_in k (pointers_bytes ps ++ rest)) count
    ∙ ap (map pointer_of) (words_again (map pointer_number ps) rest (numbers_fit blocks ps limit fits))
    ∙ pointers_of-numbers blocks ps fits

words_bytes-append : (xs ys : List ℕ) → words_bytes (xs ++ ys) ≡ words_bytes xs ++ words_bytes ys
unfolding words_bytes
words_bytes-append [] ys = refl
words_bytes-append (x ∷ xs) ys =
    ap (λ (r : List ℕ). little 4 x ++ r) (words_bytes-append xs ys) ∙ sym (append_assoc (little 4 x) (words_bytes xs) (words_bytes ys))

-- one more pointer at the end
pub pointers_bytes_push : (ps : List Pointer) (p : Pointer) → pointers_bytes (ps ++ p ∷ []) ≡ pointers_bytes ps ++ little 4 (pointer_number p)
unfolding words_bytes
pointers_bytes_push ps p =
    ap words_bytes (map_push pointer_number ps p) ∙ words_bytes-append (map pointer_number ps) (pointer_number p ∷ [])
    ∙ ap (λ (r : List ℕ). words_bytes (map pointer_number ps) ++ r) (append-nil (little 4 (pointer_number p)))

pub none_written : (at : ℕ) (out : List ℕ) → at ≤ length out → Writes at (at + 0) (pointers_bytes []) out out
unfolding words_bytes
none_written at out within =
    let here : at + 0 ≡ at = omega arith in
    record { length_is = refl; within = omega arith; bytes_are = rw here (sym (take-append-drop at out)) }

pub pointers_more : (ps : List Pointer) (i : ℕ) (p : Pointer) → i < length ps → p ≡ get_or ps i p → pointers_bytes (take (i + 1) ps) ≡ pointers_bytes (take i ps) ++ little 4 (pointer_number p)
pointers_more ps i p lt is =
    ap pointers_bytes (take_more ps i p lt ∙ ap (λ (q : Pointer). take i ps ++ q ∷ []) (sym is)) ∙ pointers_bytes_push (take i ps) p

-- ---- one number among others

-- a number of n bytes is in the first n bytes
number-append : (n : ℕ) (xs ys : List ℕ) → n ≤ length xs → number n (xs ++ ys) ≡ number n xs
unfolding number
number-append n xs ys long = little_from-append n xs ys long

module _ (i x : ℕ) (old new : List ℕ) (fits : x < 2 ^ 32) (w : Writes (4 * i) (4 * i + 4) (little 4 x) old new) where
  abbrev front : List ℕ
  front = take (4 * i) old

  abbrev behind : List ℕ
  behind = drop (4 * i + 4) old

  length-front : length front ≡ 4 * i
  length-front = omega (arith, length-take (4 * i) old, w.within)

  word_there : word new i ≡ x
  word_there =
      ap (λ (l : List ℕ). number 4 (drop (4 * i) l)) w.bytes_are
      ∙ ap (number 4) (drop_at front (little 4 x ++ behind) (4 * i) length-front) ∙ number-little 4 x behind fits

  word_before : (k : ℕ) → k < i → word new k ≡ word old k
  word_before k lt =
      let long : 4 ≤ length (drop (4 * k) front) = omega (arith, length-drop (4 * k) front, length-front) in
      let both = λ (rest : List ℕ). ap (number 4) (drop-append-le (4 * k) front rest (omega (arith, length-front))) ∙ number-append 4 (drop (4 * k) front) rest long in
      ap (λ (l : List ℕ). word l k) w.bytes_are ∙ both (little 4 x ++ behind) ∙ sym (ap (λ (l : List ℕ). word l k) (sym (take-append-drop (4 * i) old)) ∙ both (drop (4 * i) old))

  word_behind : (k : ℕ) → i < k → word new k ≡ word old k
  word_behind k lt =
      let place : length (front ++ little 4 x) ≡ 4 * i + 4 = omega (arith, length-append front (little 4 x), length-front, length-little 4 x) in
      let shape : new ≡ (front ++ little 4 x) ++ behind = w.bytes_are ∙ sym (append_assoc front (little 4 x) behind) in
      let more = 4 * (k - i) - 4 in
      let at : (l : List ℕ) → drop more (drop (4 * i + 4) l) ≡ drop (4 * k) l = λ l. drop-drop more (4 * i + 4) l ∙ ap (λ (n : ℕ). drop n l) (omega arith) in
      ap (number 4) (sym (at new) ∙ ap (drop more) (ap (drop (4 * i + 4)) shape ∙ drop_at (front ++ little 4 x) behind (4 * i + 4) place) ∙ at old)

  pub word_set : SetsWord i x old new
  word_set = record {
    there = word_there;
    others = λ k long other. elim (cases_lt k i) [
      | inl lt ↦ word_before k lt
      | inr le ↦ word_behind k (omega (arith, other))
    ];
  }

-- a pointer that was set
pub pointer_set : (blocks i : ℕ) (p : Pointer) (old new : List ℕ) → PointsBelow blocks p → SetsWord i (pointer_number p) old new → indirect_pointer new i ≡ p
pointer_set blocks i p old new fits sets = ap pointer_of sets.there ∙ pointer_of-number blocks p fits
