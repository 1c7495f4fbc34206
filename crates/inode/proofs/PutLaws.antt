-- Bytes put into a block of a file.
use Rattle.std.proofs.Common.{◌≡◌, inl, inr, ℕ, ◌+◌, ◌-◌, ◌<◌, ◌≤◌, List, length, get_or, slice_index, ap, sym, ◌∙◌, arith, length-take, length-drop, length-append}
use Rattle.std.proofs.lemmas.Bool.{cases_lt}
use Rattle.std.proofs.lemmas.Bool.Decides.{nat_tests}
use Rattle.std.proofs.lemmas.List.{same_lists, places, get_or_default}
use Rattle.buffers.specs.Positions.{with_bytes_at}
use Rattle.images.specs.InodeFiles.{spliced_at}

pub put_below : (at k : ℕ) (bytes block : List ℕ) → at + length bytes ≤ length block → k < at → get_or (spliced_at at bytes block) k 0 ≡ get_or block k 0
put_below at k bytes block fits lt = grind (arith, places)

pub put_in : (at k : ℕ) (bytes block : List ℕ) → at + length bytes ≤ length block → at ≤ k → k < at + length bytes → get_or (spliced_at at bytes block) k 0 ≡ get_or bytes (k - at) 0
put_in at k bytes block fits le lt = grind (arith, places)

pub put_past : (at k : ℕ) (bytes block : List ℕ) → at + length bytes ≤ length block → at + length bytes ≤ k → get_or (spliced_at at bytes block) k 0 ≡ get_or block k 0
put_past at k bytes block fits le = grind (arith, places)

pub written_at : (at k : ℕ) (bytes block : List ℕ) → at + length bytes ≤ length block → with_bytes_at (slice_index block) at bytes k ≡ get_or (spliced_at at bytes block) k 0
written_at at k bytes block fits = elim (cases_lt k at) [
  | inl below ↦ (let same : with_bytes_at (slice_index block) at bytes k ≡ slice_index block k = grind (arith, nat_tests) in same) ∙ sym (put_below at k bytes block fits below)
  | inr reached ↦ elim (cases_lt k (at + length bytes)) [
    | inl within ↦ (let same : with_bytes_at (slice_index block) at bytes k ≡ slice_index bytes (k - at) = grind (arith, nat_tests) in same) ∙ sym (put_in at k bytes block fits reached within)
    | inr past ↦ (let same : with_bytes_at (slice_index block) at bytes k ≡ slice_index block k = grind (arith, nat_tests) in same) ∙ sym (put_past at k bytes block fits past)
  ]
]

-- what `put` leaves is the block with the bytes in it
pub put_is : (new block bytes text below : List ℕ) (at : ℕ) → block ≡ below → bytes ≡ text → length block ≡ 4096 → length new ≡ 4096 → at + length bytes ≤ 4096
    → ((k : ℕ) → slice_index new k ≡ with_bytes_at (slice_index block) at bytes k) → new ≡ spliced_at at text below
put_is new block bytes text below at block_is bytes_is size long fits each =
    same_lists new (spliced_at at bytes block) (simp (length-take, length-drop, length-append) (omega arith))
    (λ k d lt. get_or_default new k d 0 lt ∙ each k ∙ written_at at k bytes block (omega arith)
    ∙ get_or_default (spliced_at at bytes block) k 0 d (simp (length-take, length-drop, length-append) (omega arith)))
    ∙ ap (λ (x : List ℕ). spliced_at at x block) bytes_is ∙ ap (spliced_at at text) block_is
