-- A change of up to four bytes is divided without a remainder only if it is none.
use Rattle.std.proofs.Common.{◌≡◌, ℕ, zero, suc, ◌+◌, ◌*◌, ◌/◌, ◌%◌, ◌^◌, ◌<◌, ◌≤◌, List, [], ◌∷◌, ◌++◌, length, refl, sym, ap, ◌∙◌, arith}
use Rattle.std.proofs.lemmas.Nat.{xor_comm, xor_of_32}
use Rattle.std.specs.Int.Bits.{xor_assoc, xor_self, xor_zero_l, xor_zero_r}
use Rattle.std.specs.Prelude.{bit_xor}
use Rattle.sums.specs.Numbers.{IsBytes, number_of}
use Rattle.sums.specs.Sums.{bit_step, bit_steps, remainder_from, sum_of}
use Rattle.sums.specs.declared.sum.TheConstants.{POLYNOMIAL}
use Rattle.sums.proofs.DivisionLaws.{steps-xor, steps-shifted, steps-steps, no_steps, exchanged, shifted-xor}
use Rattle.sums.proofs.RemainderLaws.{remainder-append, remainder-xor}

-- a list of bytes is divided as the number that they are
pub remainder_of_number : (r : ℕ) (bytes : List ℕ) → IsBytes bytes → remainder_from r bytes ≡ bit_steps (8 * length bytes) (bit_xor r (number_of bytes))
unfolding remainder_from
remainder_of_number r [] are = sym (no_steps (bit_xor r 0) ∙ xor_zero_r r)
remainder_of_number r (b ∷ bytes) are =
    let n = number_of bytes in
    let k = 8 * length bytes in
    let number : b + 256 * n ≡ bit_xor b (n * 2 ^ 8) = (let e : b + 256 * n ≡ n * 2 ^ 8 + b = omega arith in e) ∙ shifted-xor n b (are 0) ∙ xor_comm (n * 2 ^ 8) b in
    let apart : bit_xor r (b + 256 * n) ≡ bit_xor (bit_xor r b) (n * 2 ^ 8) = ap (λ (x : ℕ). bit_xor r x) number ∙ sym (xor_assoc r b (n * 2 ^ 8)) in
    let eight : bit_steps 8 (bit_xor r (b + 256 * n)) ≡ bit_xor (bit_steps 8 (bit_xor r b)) n
    = ap (λ (x : ℕ). bit_steps 8 x) apart ∙ steps-xor 8 (bit_xor r b) (n * 2 ^ 8) ∙ ap (λ (x : ℕ). bit_xor (bit_steps 8 (bit_xor r b)) x) (steps-shifted 8 n) in
    let count : 8 + k ≡ 8 * length (b ∷ bytes) = omega arith in
    remainder_of_number (bit_steps 8 (bit_xor r b)) bytes (λ i. are (suc i))
    ∙ ap (λ (x : ℕ). bit_steps k x) (sym eight) ∙ steps-steps 8 k (bit_xor r (b + 256 * n)) ∙ ap (λ (m : ℕ). bit_steps m (bit_xor r (b + 256 * n))) count

-- numbers with no difference
no_difference : (a b : ℕ) → bit_xor a b ≡ 0 → a ≡ b
no_difference a b e = sym (xor_zero_r a) ∙ ap (λ (x : ℕ). bit_xor a x) (sym e) ∙ sym (xor_assoc a a b) ∙ ap (λ (x : ℕ). bit_xor x b) (xor_self a) ∙ xor_zero_l b

-- a step leaves nothing of nothing alone, since the divisor has its lowest power
step_zero : (x : ℕ) → x < 2 ^ 32 → bit_step x ≡ 0 → x ≡ 0
step_zero x lt e =
    let same : x / 2 ≡ x % 2 * POLYNOMIAL = no_difference (x / 2) (x % 2 * POLYNOMIAL) e in
    omega (arith, lt, same)

step_lt : (x : ℕ) → x < 2 ^ 32 → bit_step x < 2 ^ 32
step_lt x lt = xor_of_32 (x / 2) (x % 2 * POLYNOMIAL) (omega (arith, lt)) (omega arith)

steps_zero : (n x : ℕ) → x < 2 ^ 32 → bit_steps n x ≡ 0 → x ≡ 0
unfolding bit_steps
steps_zero zero x lt e = e
steps_zero (suc n) x lt e = step_zero x lt (steps_zero n (bit_step x) (step_lt x lt) e)

number_lt : (bytes : List ℕ) → IsBytes bytes → length bytes ≤ 4 → number_of bytes < 2 ^ 32
number_lt [] are few = omega arith
number_lt (a ∷ []) are few = omega (arith, are 0)
number_lt (a ∷ b ∷ []) are few = omega (arith, are 0, are 1)
number_lt (a ∷ b ∷ c ∷ []) are few = omega (arith, are 0, are 1, are 2)
number_lt (a ∷ b ∷ c ∷ d ∷ []) are few = omega (arith, are 0, are 1, are 2, are 3)
number_lt (a ∷ b ∷ c ∷ d ∷ e ∷ bytes) are few = absurd (omega (arith, few))

number_same : (xs ys : List ℕ) → IsBytes xs → IsBytes ys → length xs ≡ length ys → number_of xs ≡ number_of ys → xs ≡ ys
number_same [] [] are_xs are_ys long e = refl
number_same [] (y ∷ ys) are_xs are_ys long e = absurd (omega (arith, long))
number_same (x ∷ xs) [] are_xs are_ys long e = absurd (omega (arith, long))
number_same (x ∷ xs) (y ∷ ys) are_xs are_ys long e =
    let low_x : x < 256 = are_xs 0 in
    let low_y : y < 256 = are_ys 0 in
    let first : x ≡ y = omega (arith, e, low_x, low_y) in
    let others : xs ≡ ys = number_same xs ys (λ i. are_xs (suc i)) (λ i. are_ys (suc i)) (omega (arith, long)) (omega (arith, e, low_x, low_y)) in
    cc

-- what is added to both is no difference
both_added : (r x y : ℕ) → bit_xor (bit_xor r x) (bit_xor r y) ≡ bit_xor x y
both_added r x y = exchanged r x r y ∙ ap (λ (z : ℕ). bit_xor z (bit_xor x y)) (xor_self r) ∙ xor_zero_l (bit_xor x y)

added_told : (z x y : ℕ) → bit_xor x z ≡ bit_xor y z → x ≡ y
added_told z x y e = no_difference x y
    (sym (both_added z x y) ∙ ap (λ (w : ℕ). bit_xor w (bit_xor z y)) (xor_comm z x ∙ e ∙ xor_comm y z) ∙ xor_self (bit_xor z y))

-- what up to four bytes leave tells them
few_told : (r : ℕ) (xs ys : List ℕ) (n : ℕ) → IsBytes xs → IsBytes ys → length xs ≡ length ys → length xs ≤ 4
    → bit_steps n (remainder_from r xs) ≡ bit_steps n (remainder_from r ys) → xs ≡ ys
few_told r xs ys n are_xs are_ys long few e =
    let x = number_of xs in
    let y = number_of ys in
    let m = 8 * length xs + n in
    let low_x : x < 2 ^ 32 = number_lt xs are_xs few in
    let low_y : y < 2 ^ 32 = number_lt ys are_ys (omega (arith, long, few)) in
    let left : bit_steps n (remainder_from r xs) ≡ bit_steps m (bit_xor r x)
    = ap (λ (z : ℕ). bit_steps n z) (remainder_of_number r xs are_xs) ∙ steps-steps (8 * length xs) n (bit_xor r x) in
    let right : bit_steps n (remainder_from r ys) ≡ bit_steps m (bit_xor r y)
    = ap (λ (z : ℕ). bit_steps n z) (remainder_of_number r ys are_ys) ∙ steps-steps (8 * length ys) n (bit_xor r y)
    ∙ ap (λ (l : ℕ). bit_steps (8 * l + n) (bit_xor r y)) (sym long) in
    let nothing : bit_steps m (bit_xor x y) ≡ 0
    = ap (λ (z : ℕ). bit_steps m z) (sym (both_added r x y)) ∙ steps-xor m (bit_xor r x) (bit_xor r y)
    ∙ ap (λ (z : ℕ). bit_xor z (bit_steps m (bit_xor r y))) (sym left ∙ e ∙ right) ∙ xor_self (bit_steps m (bit_xor r y)) in
    number_same xs ys are_xs are_ys long (no_difference x y (steps_zero m (bit_xor x y) (xor_of_32 x y low_x low_y) nothing))

-- the remainder before the last bytes, divided beside them
remainder-behind : (r : ℕ) (front xs back : List ℕ) → remainder_from r (front ++ xs ++ back)
    ≡ bit_xor (bit_steps (8 * length back) (remainder_from (remainder_from r front) xs)) (remainder_from 0 back)
remainder-behind r front xs back =
    let before = remainder_from (remainder_from r front) xs in
    remainder-append r (front ++ xs) back ∙ ap (λ (x : ℕ). remainder_from x back) (remainder-append r front xs ∙ sym (xor_zero_r before))
    ∙ remainder-xor before 0 back

-- the sum tells up to four bytes, where the others are known
pub sum_tells : (front xs ys back : List ℕ) → IsBytes xs → IsBytes ys → length xs ≡ length ys → length xs ≤ 4
    → sum_of (front ++ xs ++ back) ≡ sum_of (front ++ ys ++ back) → xs ≡ ys
sum_tells front xs ys back are_xs are_ys long few e =
    let ones : ℕ = 0xffffffff in
    let same : remainder_from ones (front ++ xs ++ back) ≡ remainder_from ones (front ++ ys ++ back) = added_told ones _ _ e in
    few_told (remainder_from ones front) xs ys (8 * length back) are_xs are_ys long few
    (added_told (remainder_from 0 back) _ _ (sym (remainder-behind ones front xs back) ∙ same ∙ remainder-behind ones front ys back))
