-- One bit of a map of bits.
use Rattle.std.proofs.Common.{◌≡◌, ◌≢◌, ◌↔◌, inl, inr, ℕ, ◌-◌, ◌*◌, ◌/◌, ◌%◌, ◌^◌, ◌<◌, List, length, get_or, set, sym, ap, ◌∙◌, arith, get_or-set_other, get_or-set_same, bit_or, bit_and, w8}
use Rattle.std.specs.Int.{bit_at}
use Rattle.layout.specs.Maps.{IsTaken}
use Rattle.std.proofs.lemmas.Bool.{cases_eq}
use Rattle.std.proofs.lemmas.Nat.Bits.{bit_at_set_same, bit_at_set_other, bit_at_clear_same, bit_at_clear_other}

-- bit n of the bytes
abbrev pub bit_of : List ℕ → ℕ → ℕ
bit_of bytes n = bit_at (get_or bytes (n / 8) 0) (n % 8)

module _ (bytes : List ℕ) (n v : ℕ) (within : n / 8 < length bytes) where
  same_bit : bit_of (set bytes (n / 8) v) n ≡ bit_at v (n % 8)
  same_bit = ap (λ (x : ℕ). bit_at x (n % 8)) (get_or-set_same bytes (n / 8) v 0 within)

  other_bit : ((i : ℕ) → i < 8 → i ≢ n % 8 → bit_at v i ≡ bit_at (get_or bytes (n / 8) 0) i) → (k : ℕ) → k ≢ n → bit_of (set bytes (n / 8) v) k ≡ bit_of bytes k
  other_bit same k ne =
      elim (cases_eq (k / 8) (n / 8)) [
        | inl here ↦
            let apart : k % 8 ≢ n % 8 = λ e. ne (omega (arith, here, e)) in
            ap (λ (j : ℕ). bit_at (get_or (set bytes (n / 8) v) j 0) (k % 8)) here ∙ ap (λ (x : ℕ). bit_at x (k % 8)) (get_or-set_same bytes (n / 8) v 0 within)
            ∙ same (k % 8) (omega arith) apart ∙ ap (λ (j : ℕ). bit_at (get_or bytes j 0) (k % 8)) (sym here)
        | inr else ↦ ap (λ (x : ℕ). bit_at x (k % 8)) (get_or-set_other bytes (n / 8) (k / 8) v 0 else)
      ]

module _ (bytes : List ℕ) (n old : ℕ) (within : n / 8 < length bytes) (is : old ≡ get_or bytes (n / 8) 0) where
  -- the bytes with bit n set, and with bit n clear
  abbrev pub with_bit : List ℕ
  with_bit = set bytes (n / 8) (bit_or old (1 * 2 ^ (n % 8) % 256))

  abbrev pub without_bit : List ℕ
  without_bit = set bytes (n / 8) (bit_and old (255 - 1 * 2 ^ (n % 8) % 256))

  pub taken_here : IsTaken with_bit n
  taken_here = same_bit bytes n _ within ∙ bit_at_set_same w8 old (n % 8) (omega arith)

  pub taken_others : (k : ℕ) → k ≢ n → IsTaken with_bit k ↔ IsTaken bytes k
  taken_others k ne =
      let same : bit_of with_bit k ≡ bit_of bytes k =
      other_bit bytes n _ within (λ i below apart. bit_at_set_other w8 old (n % 8) (omega arith) i apart ∙ ap (λ (x : ℕ). bit_at x i) is) k ne in
      ((λ is. sym same ∙ is), (λ is. same ∙ is))

  pub freed_here : IsTaken without_bit n → ⊥
  freed_here taken =
      let clear : bit_of without_bit n ≡ 0 = same_bit bytes n _ within ∙ bit_at_clear_same w8 old (n % 8) (omega arith) in
      omega (arith, clear, taken)

  pub freed_others : (k : ℕ) → k ≢ n → IsTaken without_bit k ↔ IsTaken bytes k
  freed_others k ne =
      let same : bit_of without_bit k ≡ bit_of bytes k =
      other_bit bytes n _ within (λ i below apart. bit_at_clear_other w8 old (n % 8) (omega arith) i below apart ∙ ap (λ (x : ℕ). bit_at x i) is) k ne in
      ((λ is. sym same ∙ is), (λ is. same ∙ is))
