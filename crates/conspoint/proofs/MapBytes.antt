-- Entries of the block map as bytes: the entry 0 is four zeros.
use Rattle.std.proofs.Common.{◌≡◌, ℕ, zero, suc, ◌+◌, ◌*◌, ◌<◌, List, drop, get_or, sym, ◌∙◌, arith}
use Rattle.std.specs.Prelude.{slice_index}
use Rattle.std.proofs.lemmas.List.{get_or-drop}
use Rattle.layout.specs.Bytes.{number}
use Rattle.layout.specs.Maps.{map_entry}

sum_zero : (a b c d r : ℕ) → a + 256 * (b + 256 * (c + 256 * (d + 256 * 0))) ≡ 0 → (a ≡ 0) × (b ≡ 0) × (c ≡ 0) × (d ≡ 0)
sum_zero a b c d r is = (omega (arith, is), omega (arith, is), omega (arith, is), omega (arith, is))

-- bytes that spell the entry 0 are zeros
pub zero_bytes : (bytes : List ℕ) (i r : ℕ) → map_entry bytes i ≡ 0 → r < 4 → slice_index bytes (4 * i + r) ≡ 0
unfolding number
zero_bytes bytes i r is lt =
    let xs = drop (4 * i) bytes in
    let each = sum_zero (get_or xs 0 0) (get_or xs 1 0) (get_or xs 2 0) (get_or xs 3 0) r is in
    sym (get_or-drop (4 * i) bytes r 0) ∙ pick r lt each
  where
    pick : (r : ℕ) → r < 4 → (get_or (drop (4 * i) bytes) 0 0 ≡ 0) × (get_or (drop (4 * i) bytes) 1 0 ≡ 0) × (get_or (drop (4 * i) bytes) 2 0 ≡ 0) × (get_or (drop (4 * i) bytes) 3 0 ≡ 0)
        → get_or (drop (4 * i) bytes) r 0 ≡ 0
    pick zero lt each = each.0
    pick (suc zero) lt each = each.1
    pick (suc (suc zero)) lt each = each.2
    pick (suc (suc (suc zero))) lt each = each.3
    pick (suc (suc (suc (suc r)))) lt each = absurd (omega arith)
