-- Each byte is divided alone, with the bytes behind it.
use Rattle.std.proofs.Common.{◌≡◌, ℕ, ◌+◌, ◌*◌, ◌/◌, ◌%◌, ◌^◌, ◌<◌, List, [], ◌∷◌, ◌++◌, length, slice_index_or, refl, sym, ap, ◌∙◌, arith}
use Rattle.std.proofs.lemmas.Nat.{xor_comm}
use Rattle.std.specs.Int.Bits.{xor_assoc, xor_self, xor_zero_l, xor_zero_r}
use Rattle.std.specs.Prelude.{bit_xor}
use Rattle.sums.specs.Sums.{bit_steps, remainder_from, sum_of}
use Rattle.sums.proofs.DivisionLaws.{steps-xor, steps-shifted, steps-steps, no_steps, parts-xor}

pub remainder-none : (r : ℕ) → remainder_from r [] ≡ r
unfolding remainder_from
remainder-none r = refl

pub remainder-append : (r : ℕ) (xs ys : List ℕ) → remainder_from r (xs ++ ys) ≡ remainder_from (remainder_from r xs) ys
unfolding remainder_from
remainder-append r [] ys = refl
remainder-append r (x ∷ xs) ys = remainder-append (bit_steps 8 (bit_xor r x)) xs ys

-- what is added to the remainder is divided beside the bytes
pub remainder-xor : (a r : ℕ) (bytes : List ℕ) → remainder_from (bit_xor a r) bytes ≡ bit_xor (bit_steps (8 * length bytes) a) (remainder_from r bytes)
unfolding remainder_from
remainder-xor a r [] = ap (λ (x : ℕ). bit_xor x r) (sym (no_steps a))
remainder-xor a r (b ∷ bytes) =
    let into : bit_steps 8 (bit_xor (bit_xor a r) b) ≡ bit_xor (bit_steps 8 a) (bit_steps 8 (bit_xor r b))
    = ap (λ (x : ℕ). bit_steps 8 x) (xor_assoc a r b) ∙ steps-xor 8 a (bit_xor r b) in
    let count : 8 + 8 * length bytes ≡ 8 * length (b ∷ bytes) = omega arith in
    ap (λ (x : ℕ). remainder_from x bytes) into ∙ remainder-xor (bit_steps 8 a) (bit_steps 8 (bit_xor r b)) bytes
    ∙ ap (λ (x : ℕ). bit_xor x (remainder_from (bit_steps 8 (bit_xor r b)) bytes)) (steps-steps 8 (8 * length bytes) a ∙ ap (λ (n : ℕ). bit_steps n a) count)

-- the first byte is divided with the remainder's last, beside the others
pub remainder-first : (r b : ℕ) (bytes : List ℕ) → remainder_from r (b ∷ bytes) ≡ bit_xor (remainder_from (r / 256) bytes) (bit_steps (8 * length bytes + 8) (bit_xor (r % 256) b))
unfolding remainder_from
remainder-first r b bytes =
    let byte = bit_xor (r % 256) b in
    let whole : bit_xor r b ≡ bit_xor (r / 256 * 2 ^ 8) byte = ap (λ (x : ℕ). bit_xor x b) (parts-xor r) ∙ xor_assoc (r / 256 * 2 ^ 8) (r % 256) b in
    let out : bit_steps 8 (bit_xor r b) ≡ bit_xor (r / 256) (bit_steps 8 byte)
    = ap (λ (x : ℕ). bit_steps 8 x) whole ∙ steps-xor 8 (r / 256 * 2 ^ 8) byte ∙ ap (λ (x : ℕ). bit_xor x (bit_steps 8 byte)) (steps-shifted 8 (r / 256)) in
    let count : 8 + 8 * length bytes ≡ 8 * length bytes + 8 = omega arith in
    ap (λ (x : ℕ). remainder_from x bytes) (out ∙ xor_comm (r / 256) (bit_steps 8 byte)) ∙ remainder-xor (bit_steps 8 byte) (r / 256) bytes
    ∙ ap (λ (x : ℕ). bit_xor x (remainder_from (r / 256) bytes)) (steps-steps 8 (8 * length bytes) byte ∙ ap (λ (n : ℕ). bit_steps n byte) count)
    ∙ xor_comm (bit_steps (8 * length bytes + 8) byte) (remainder_from (r / 256) bytes)

pub remainder-single : (r b : ℕ) → remainder_from r (b ∷ []) ≡ bit_xor (r / 256) (bit_steps 8 (bit_xor (r % 256) b))
remainder-single r b = remainder-first r b [] ∙ ap (λ (x : ℕ). bit_xor x (bit_steps 8 (bit_xor (r % 256) b))) (remainder-none (r / 256))

-- a byte that meets no remainder
zero-first : (b : ℕ) (bytes : List ℕ) → remainder_from 0 (b ∷ bytes) ≡ bit_xor (remainder_from 0 bytes) (bit_steps (8 * length bytes + 8) b)
zero-first b bytes = remainder-first 0 b bytes ∙ ap (λ (x : ℕ). bit_xor (remainder_from 0 bytes) (bit_steps (8 * length bytes + 8) x)) (xor_zero_l b)

last_four : (b4 b5 b6 b7 : ℕ) → remainder_from 0 (b4 ∷ b5 ∷ b6 ∷ b7 ∷ []) ≡ bit_xor (bit_xor (bit_xor (bit_steps 8 b7) (bit_steps 16 b6)) (bit_steps 24 b5)) (bit_steps 32 b4)
last_four b4 b5 b6 b7 = simp (zero-first, remainder-none, xor_zero_l)

-- eight bytes, each divided alone: the remainder has no byte for the last four
pub eight_bytes : (r : ℕ) (bytes : List ℕ) → r < 2 ^ 32 → length bytes ≡ 8 → remainder_from r bytes
    ≡ bit_xor (bit_xor (bit_xor (bit_xor (bit_xor (bit_xor (bit_xor
    (bit_steps 8 (slice_index_or bytes 7 0)) (bit_steps 16 (slice_index_or bytes 6 0))) (bit_steps 24 (slice_index_or bytes 5 0))) (bit_steps 32 (slice_index_or bytes 4 0)))
    (bit_steps 40 (bit_xor (r / 16777216 % 256) (slice_index_or bytes 3 0)))) (bit_steps 48 (bit_xor (r / 65536 % 256) (slice_index_or bytes 2 0))))
    (bit_steps 56 (bit_xor (r / 256 % 256) (slice_index_or bytes 1 0)))) (bit_steps 64 (bit_xor (r % 256) (slice_index_or bytes 0 0)))
eight_bytes r (b0 ∷ b1 ∷ b2 ∷ b3 ∷ b4 ∷ b5 ∷ b6 ∷ b7 ∷ []) lt long =
    let two : r / 256 / 256 ≡ r / 65536 = omega arith in
    let three : r / 65536 / 256 ≡ r / 16777216 = omega arith in
    let none : r / 16777216 / 256 ≡ 0 = omega (arith, lt) in
    simp (remainder-first r, remainder-first (r / 256), two, remainder-first (r / 65536), three, remainder-first (r / 16777216), none, last_four b4 b5 b6 b7)
eight_bytes r (b0 ∷ b1 ∷ b2 ∷ b3 ∷ b4 ∷ b5 ∷ b6 ∷ b7 ∷ b8 ∷ bytes) lt long = absurd (omega (arith, long))
eight_bytes r bytes lt long = absurd (omega (arith, long))

-- the inverted number, inverted
inverted_twice : (x : ℕ) → bit_xor (bit_xor x 0xffffffff) 0xffffffff ≡ x
inverted_twice x = xor_assoc x 0xffffffff 0xffffffff ∙ ap (λ (y : ℕ). bit_xor x y) (xor_self 0xffffffff) ∙ xor_zero_r x

-- a sum goes on from that of the bytes before
pub sum-append : (xs ys : List ℕ) → sum_of (xs ++ ys) ≡ bit_xor (remainder_from (bit_xor (sum_of xs) 0xffffffff) ys) 0xffffffff
sum-append xs ys =
    ap (λ (x : ℕ). bit_xor x 0xffffffff)
    (remainder-append 0xffffffff xs ys ∙ ap (λ (x : ℕ). remainder_from x ys) (sym (inverted_twice (remainder_from 0xffffffff xs))))

pub sum-none : sum_of [] ≡ 0
sum-none = ap (λ (x : ℕ). bit_xor x 0xffffffff) (remainder-none 0xffffffff)
