-- The division keeps xor, and gives what stands in front of zeros back.
use native.Mathlib.Nat.{pow-suc}
use Rattle.std.proofs.Common.{◌≡◌, ℕ, zero, suc, ◌+◌, ◌*◌, ◌/◌, ◌%◌, ◌^◌, ◌<◌, refl, sym, ap, ◌∙◌, arith}
use Rattle.std.proofs.Math.Nat.{mul_assoc}
use Rattle.std.proofs.lemmas.Grind.{common_steps}
use Rattle.std.proofs.lemmas.Nat.{xor_comm, xor_shr, xor_mod, xor_block}
use Rattle.std.specs.Int.Bits.{xor_zero_l, xor_zero_r}
use Rattle.std.specs.Prelude.{bit_xor}
use Rattle.sums.specs.Sums.{bit_step, bit_steps}
use Rattle.sums.specs.declared.sum.TheConstants.{POLYNOMIAL}

-- the divisor, taken by two bits
divisor-xor : (a b : ℕ) → a < 2 → b < 2 → bit_xor a b * POLYNOMIAL ≡ bit_xor (a * POLYNOMIAL) (b * POLYNOMIAL)
divisor-xor zero zero a b = refl
divisor-xor zero (suc zero) a b = refl
divisor-xor (suc zero) zero a b = refl
divisor-xor (suc zero) (suc zero) a b = refl
divisor-xor (suc (suc n)) y a b = absurd (omega (arith, a))
divisor-xor zero (suc (suc n)) a b = absurd (omega (arith, b))
divisor-xor (suc zero) (suc (suc n)) a b = absurd (omega (arith, b))

-- two pairs exchanged
pub exchanged : (a b c d : ℕ) → bit_xor (bit_xor a b) (bit_xor c d) ≡ bit_xor (bit_xor a c) (bit_xor b d)
exchanged a b c d = grind (arith, common_steps, xor_comm)

step-xor : (a b : ℕ) → bit_step (bit_xor a b) ≡ bit_xor (bit_step a) (bit_step b)
step-xor a b =
    let half : bit_xor a b / 2 ≡ bit_xor (a / 2) (b / 2) = xor_shr a b 1 in
    let last : bit_xor a b % 2 ≡ bit_xor (a % 2) (b % 2) = xor_mod a b 1 in
    let taken : bit_xor a b % 2 * POLYNOMIAL ≡ bit_xor (a % 2 * POLYNOMIAL) (b % 2 * POLYNOMIAL)
    = ap (λ (x : ℕ). x * POLYNOMIAL) last ∙ divisor-xor (a % 2) (b % 2) (omega arith) (omega arith) in
    ap (λ (x : ℕ). bit_xor x (bit_xor a b % 2 * POLYNOMIAL)) half ∙ ap (λ (x : ℕ). bit_xor (bit_xor (a / 2) (b / 2)) x) taken
    ∙ exchanged (a / 2) (b / 2) (a % 2 * POLYNOMIAL) (b % 2 * POLYNOMIAL)

pub steps-xor : (n a b : ℕ) → bit_steps n (bit_xor a b) ≡ bit_xor (bit_steps n a) (bit_steps n b)
unfolding bit_steps
steps-xor zero a b = refl
steps-xor (suc n) a b = ap (λ (x : ℕ). bit_steps n x) (step-xor a b) ∙ steps-xor n (bit_step a) (bit_step b)

-- what stands in front of a zero comes out as it is
step-double : (z : ℕ) → bit_step (z * 2) ≡ z
step-double z =
    let half : z * 2 / 2 ≡ z = omega arith in
    let last : z * 2 % 2 ≡ 0 = omega arith in
    ap (λ (x : ℕ). bit_xor x (z * 2 % 2 * POLYNOMIAL)) half ∙ ap (λ (x : ℕ). bit_xor z (x * POLYNOMIAL)) last ∙ xor_zero_r z

pub steps-shifted : (n y : ℕ) → bit_steps n (y * 2 ^ n) ≡ y
unfolding bit_steps
steps-shifted zero y = omega arith
steps-shifted (suc n) y =
    let twice : y * 2 ^ suc n ≡ y * 2 ^ n * 2 = ap (λ (x : ℕ). y * x) (pow-suc 2 n) ∙ sym (mul_assoc y (2 ^ n) 2) in
    ap (λ (x : ℕ). bit_steps n (bit_step x)) twice ∙ ap (λ (x : ℕ). bit_steps n x) (step-double (y * 2 ^ n)) ∙ steps-shifted n y

pub steps-steps : (m n x : ℕ) → bit_steps n (bit_steps m x) ≡ bit_steps (m + n) x
unfolding bit_steps
steps-steps zero n x = let e : n ≡ 0 + n = omega arith in ap (λ (k : ℕ). bit_steps k x) e
steps-steps (suc m) n x =
    let e : suc (m + n) ≡ suc m + n = omega arith in
    steps-steps m n (bit_step x) ∙ ap (λ (k : ℕ). bit_steps k x) e

pub no_steps : (x : ℕ) → bit_steps 0 x ≡ x
unfolding bit_steps
no_steps x = refl

-- a number in front of a byte
pub shifted-xor : (high low : ℕ) → low < 256 → high * 2 ^ 8 + low ≡ bit_xor (high * 2 ^ 8) low
shifted-xor high low lt =
    let high_alone : bit_xor high 0 ≡ high = xor_zero_r high in
    let low_alone : bit_xor 0 low ≡ low = xor_zero_l low in
    let joined : bit_xor (high * 2 ^ 8 + 0) (0 * 2 ^ 8 + low) ≡ bit_xor high 0 * 2 ^ 8 + bit_xor 0 low = xor_block 8 high 0 0 low (omega arith) (omega (arith, lt)) in
    let front : high * 2 ^ 8 + 0 ≡ high * 2 ^ 8 = omega arith in
    let back : 0 * 2 ^ 8 + low ≡ low = omega arith in
    ap (λ (x : ℕ). x * 2 ^ 8 + low) (sym high_alone) ∙ ap (λ (x : ℕ). bit_xor high 0 * 2 ^ 8 + x) (sym low_alone) ∙ sym joined
    ∙ ap (λ (x : ℕ). bit_xor x (0 * 2 ^ 8 + low)) front ∙ ap (λ (x : ℕ). bit_xor (high * 2 ^ 8) x) back

-- a number by its last byte and what is in front of it
pub parts-xor : (x : ℕ) → x ≡ bit_xor (x / 256 * 2 ^ 8) (x % 256)
parts-xor x = let sum : x ≡ x / 256 * 2 ^ 8 + x % 256 = omega arith in sum ∙ shifted-xor (x / 256) (x % 256) (omega arith)
