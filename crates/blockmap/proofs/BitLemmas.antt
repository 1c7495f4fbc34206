-- One bit of an entry.
use Rattle.std.proofs.Common.{ℕ, ◌≡◌, ◌≢◌, ◌-◌, ◌*◌, ◌%◌, ◌^◌, ◌<◌, true, false, bit_and, bit_or, w32, inl, inr, refl, ap, sym, ◌∙◌, arith}
use Rattle.std.specs.Int.{bit_at}
use Rattle.std.proofs.lemmas.Bool.{cases_eq, cases_lt}
use Rattle.std.proofs.lemmas.Nat.Bits.{bit_at_set_same, bit_at_set_other, bit_at_clear_same, bit_at_clear_other, bit_at_above, bit_at-lt, and_pow}
use Rattle.std.proofs.lemmas.Nat.{and_le_l}
use Rattle.std.specs.Int.Bits.{or_zero_r}
use Rattle.blockmap.specs.Bits.{SetsBit, SetsPlane}

pub set_bit : (entry k : ℕ) → k < 32 → SetsBit k true entry (bit_or entry (1 * 2 ^ k % 2 ^ 32))
set_bit entry k low = record { there = bit_at_set_same w32 entry k low; others = λ i other. bit_at_set_other w32 entry k low i other }

pub clear_bit : (entry k : ℕ) → entry < 2 ^ 32 → k < 32 → SetsBit k false entry (bit_and entry (4294967295 - 1 * 2 ^ k % 2 ^ 32))
clear_bit entry k fits low =
    let small : bit_and entry (4294967295 - 1 * 2 ^ k % 2 ^ 32) < 2 ^ 32 = omega (arith, fits, and_le_l entry (4294967295 - 1 * 2 ^ k % 2 ^ 32)) in
    record {
      there = bit_at_clear_same w32 entry k low;
      others = λ i other. elim (cases_lt i 32) [
        | inl below ↦ bit_at_clear_other w32 entry k low i below other
        | inr above ↦ bit_at_above _ 32 i small above ∙ sym (bit_at_above entry 32 i fits above)
      ];
    }

-- a mask without bit k, and that bit
abbrev without : ℕ → ℕ
without k = 4294967295 - 1 * 2 ^ k % 2 ^ 32

abbrev only : ℕ → ℕ
only k = 1 * 2 ^ k % 2 ^ 32

once : (b p : ℕ) → p < 2 ^ 32 → b ≡ 1 → b * p % 2 ^ 32 ≡ p
once b p small is = rw is (omega (arith, small))

never : (b p : ℕ) → b ≡ 0 → b * p % 2 ^ 32 ≡ 0
never b p is = rw is (omega arith)

-- the entry with bit k of another's lowest
taken : (e s k v : ℕ) → e < 2 ^ 32 → k < 32 → v ≡ bit_or (bit_and e (without k)) (bit_and s 1 * only k % 2 ^ 32)
    → (bit_at v k ≡ bit_at s 0) × ((i : ℕ) → i ≢ k → bit_at v i ≡ bit_at e i)
taken e s k v fits low is =
    let cleared = clear_bit e k fits low in
    let lowest : bit_and s 1 ≡ bit_at s 0 = omega (arith, and_pow s 0) in
    elim (cases_eq (bit_at s 0) 1) [
      | inl one ↦
          let set = set_bit (bit_and e (without k)) k low in
          let now = is ∙ ap (bit_or (bit_and e (without k))) (once (bit_and s 1) (only k) (omega arith) (lowest ∙ one)) in
          (ap (λ n. bit_at n k) now ∙ set.there ∙ sym one, λ i other. ap (λ n. bit_at n i) now ∙ set.others i other ∙ cleared.others i other)
      | inr other ↦
          let none : bit_at s 0 ≡ 0 = omega (arith, other, bit_at-lt s 0) in
          let now = is ∙ ap (bit_or (bit_and e (without k))) (never (bit_and s 1) (only k) (lowest ∙ none)) ∙ or_zero_r (bit_and e (without k)) in
          (ap (λ n. bit_at n k) now ∙ cleared.there ∙ sym none, λ i other. ap (λ n. bit_at n i) now ∙ cleared.others i other)
    ]

-- set k of the first entries is made the lowest bits of others
pub plane_taken : (count k : ℕ) (settled old new : ℕ → ℕ) → k < 32 → ((b : ℕ) → old b < 2 ^ 32)
    → ((b : ℕ) → b < count → new b ≡ bit_or (bit_and (old b) (without k)) (bit_and (settled b) 1 * only k % 2 ^ 32)) → SetsPlane count k (λ b. bit_at (settled b) 0) old new
plane_taken count k settled old new low fits is = record {
  there = λ b below. (taken (old b) (settled b) k (new b) (fits b) low (is b below)).0;
  others = λ b i below other. (taken (old b) (settled b) k (new b) (fits b) low (is b below)).1 i other;
}

-- and made empty
pub plane_cleared : (count k : ℕ) (old new : ℕ → ℕ) → k < 32 → ((b : ℕ) → old b < 2 ^ 32) → ((b : ℕ) → b < count → new b ≡ bit_and (old b) (without k))
    → SetsPlane count k (λ b. 0) old new
plane_cleared count k old new low fits is = record {
  there = λ b below. ap (λ n. bit_at n k) (is b below) ∙ (clear_bit (old b) k (fits b) low).there;
  others = λ b i below other. ap (λ n. bit_at n i) (is b below) ∙ (clear_bit (old b) k (fits b) low).others i other;
}

-- and is empty, where no entry is in it
pub plane_empty : (count k : ℕ) (old : ℕ → ℕ) → ((b : ℕ) → b < count → bit_at (old b) k ≢ 1) → SetsPlane count k (λ b. 0) old old
plane_empty count k old none = record {
  there = λ b below. let no = none b below in omega (arith, no, bit_at-lt (old b) k);
  others = λ b i below other. refl;
}
