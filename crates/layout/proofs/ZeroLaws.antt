-- Zeros.
use Rattle.std.proofs.Common.{◌≡◌, inl, inr, ℕ, ◌+◌, ◌*◌, ◌<◌, List, length, get_or, replicate, refl, ◌∙◌, arith}
use Rattle.std.specs.Prelude.{slice_index}
use Rattle.std.proofs.lemmas.Bool.{cases_lt}
use Rattle.std.proofs.lemmas.List.{get_or-drop, get_or-replicate, get_or_past, length-replicate}
use Rattle.layout.specs.Bytes.{number, zeros}
use Rattle.layout.specs.Maps.{map_entry}

pub length-zeros : (n : ℕ) → length (zeros n) ≡ n
unfolding zeros
length-zeros n = length-replicate {A = ℕ} n 0

pub zero_byte : (i count : ℕ) → get_or (zeros count) i 0 ≡ 0
unfolding zeros
zero_byte i count =
    elim (cases_lt i count) [
      | inl lt ↦ get_or-replicate {A = ℕ} count i 0 0 lt
      | inr le ↦ get_or_past (replicate count 0) i 0 (omega (arith, length-replicate {A = ℕ} count 0))
    ]

pub number-zeros : (count : ℕ) → number 4 (zeros count) ≡ 0
unfolding number
number-zeros count = rw (zero_byte 0 count, zero_byte 1 count, zero_byte 2 count, zero_byte 3 count) refl

-- bytes of zeros spell the entry 0 of a map
pub word_zero : (bytes : List ℕ) (i : ℕ) → ((q : ℕ) → q < 4 → slice_index bytes (4 * i + q) ≡ 0) → map_entry bytes i ≡ 0
unfolding number
word_zero bytes i none =
    let at = λ (q : ℕ) (lt : q < 4). get_or-drop (4 * i) bytes q 0 ∙ none q lt in
    rw (at 0 (omega arith), at 1 (omega arith), at 2 (omega arith), at 3 (omega arith)) refl
