-- Bits of marks.
use Rattle.std.proofs.Common.{◌≡◌, ◌⊎◌, ℕ, ◌*◌, ◌%◌, ◌^◌, ◌<◌, inl, inr, bit_and, bit_or, w32, sym, subst, arith}
use Rattle.std.specs.Prelude.{◌↔◌}
use Rattle.std.specs.Int.{bit_at}
use Rattle.std.proofs.lemmas.Bool.{cases_eq}
use Rattle.std.proofs.lemmas.Nat.Bits.{bit_at-zero, bit_at_and, bit_at_or, bit_at_set_other, bit_at_set_same}
use Rattle.images.specs.BlockMap.{HasBit}

-- the bits of both
pub bits_or : (k a b : ℕ) → HasBit k (bit_or a b) ↔ (HasBit k a ⊎ HasBit k b)
bits_or k a b = (
  (λ is. elim (cases_eq (bit_at a k) 1) [
    | inl one ↦ inl one
    | inr other ↦ inr (omega (arith, bit_at_or a b k, is, other))
  ]),
  (λ either. elim either [
    | inl one ↦ omega (arith, bit_at_or a b k, one)
    | inr other ↦ omega (arith, bit_at_or a b k, other)
  ]),
)

-- the bits that both have
pub bits_and : (k a b : ℕ) → HasBit k (bit_and a b) ↔ (HasBit k a × HasBit k b)
bits_and k a b = (
  (λ is. (omega (arith, bit_at_and a b k, is), omega (arith, bit_at_and a b k, is))),
  (λ both. omega (arith, bit_at_and a b k, both.0, both.1)),
)

-- one bit alone
pub bit_alone : (p k : ℕ) → p < 32 → HasBit k (1 * 2 ^ p % 2 ^ 32) ↔ (k ≡ p)
bit_alone p k low = (
  (λ is. elim (cases_eq k p) [
    | inl same ↦ same
    | inr other ↦ absurd (omega (arith, is, bit_at_or 0 (1 * 2 ^ p % 2 ^ 32) k, bit_at-zero k, bit_at_set_other w32 0 p low k other))
  ]),
  (λ same.
      let there : bit_at (1 * 2 ^ p % 2 ^ 32) p ≡ 1 = omega (arith, bit_at_or 0 (1 * 2 ^ p % 2 ^ 32) p, bit_at-zero p, bit_at_set_same w32 0 p low) in
      subst (λ (n : ℕ). HasBit n (1 * 2 ^ p % 2 ^ 32)) (sym same) there),
)
