-- What a new image starts from.
use Rattle.std.proofs.Common.{◌≡◌, inl, inr, ℕ, ◌+◌, ◌<◌, List, length, refl, sym, subst, ◌∙◌, arith}
use Rattle.std.specs.Prelude.{nat_lt, if◌then◌else◌}
use Rattle.std.proofs.lemmas.Bool.{cases_eq, cases_lt, cond_above, cond_below}
use Rattle.layout.specs.Bytes.{zeros}
use Rattle.layout.specs.Maps.{SetsWord, map_entry}

-- zeros, up to an index or not
pub zeros_or : (j n : ℕ) (x : List ℕ) → x ≡ zeros 4096 → (if nat_lt j n then x else zeros 4096) ≡ zeros 4096
zeros_or j n x is = elim (cases_lt j n) [
  | inl lt ↦ sym (cond_below j n x (zeros 4096) lt) ∙ is
  | inr ge ↦ sym (cond_above j n x (zeros 4096) (zeros 4096) ge refl)
]

-- one entry more is set
pub one_more : (entry_of : ℕ → ℕ) (i x : ℕ) (old new : List ℕ) → length old ≡ 4096 → i < 1024 → ((j : ℕ) → j < i → map_entry old j ≡ entry_of j) → SetsWord i x old new → x ≡ entry_of i
    → (j : ℕ) → j < i + 1 → map_entry new j ≡ entry_of j
one_more entry_of i x old new long most so_far sets is j lt = elim (cases_eq j i) [
  | inl same ↦ subst (λ k. map_entry new k ≡ entry_of k) (sym same) (sets.there ∙ is)
  | inr other ↦ sets.others j (omega (arith, long)) other ∙ so_far j (omega (arith, other))
]
