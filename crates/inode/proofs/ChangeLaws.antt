-- What a prepared change makes of a file's blocks.
use Rattle.std.proofs.Common.{◌≡◌, ℕ, ◌+◌, ◌-◌, ◌*◌, ◌/◌, ◌<◌, ◌≤◌, List, [], ◌∷◌, ◌++◌, length, get_or, ◌∙◌, ap, inl, inr, ◌⊎◌, refl, arith}
use Rattle.std.proofs.lemmas.Bool.{cases_lt, lt-ltb, le-ltb}
use Rattle.std.proofs.lemmas.List.{get_or_append_left, get_or-append_right, length_push}
use Rattle.blocktree.specs.Places.{block_count}
use Rattle.layout.specs.declared.TheConstants.{INLINE_BYTES}
use Rattle.layout.proofs.ZeroLaws.{length-zeros}
use Rattle.images.specs.Edges.{IsPartlyWritten, IsWritten}
use Rattle.inode.specs.Changes.{changed_block}
use Rattle.inode.proofs.BytePositions.{laid_below, laid_in, laid_past}

-- each has the bytes of a block
abbrev pub AreWhole : List (List ℕ) → Type 0
AreWhole pieces = (j : ℕ) → j < length pieces → length (get_or pieces j []) ≡ 4096

pub one_more : (pieces more : List (List ℕ)) (block : List ℕ) → more ≡ pieces ++ block ∷ [] → AreWhole pieces → length block ≡ 4096 → AreWhole more
one_more pieces more block is before here j lt =
    let len : length more ≡ length pieces + 1 = ap length is ∙ length_push pieces block in
    ap (λ (xs : List (List ℕ)). length (get_or xs j [])) is ∙ elim (cases_lt j (length pieces)) [
      | inl below ↦ ap length (get_or_append_left pieces (block ∷ []) [] j below) ∙ before j below
      | inr last ↦
          let none : j - length pieces ≡ 0 = omega (arith, last, lt, len) in
          ap length (get_or-append_right pieces (block ∷ []) (length pieces) j [] refl last ∙ ap (λ (n : ℕ). get_or (block ∷ []) n []) none) ∙ here
    ]

module _ (blocks : ℕ → List ℕ) (size first : ℕ) (pieces : List (List ℕ)) (i : ℕ) where
  pub past_length : block_count size ≤ i → length (changed_block blocks size first pieces i) ≡ 4096
  past_length le = rw (le-ltb i (block_count size) le) (length-zeros 4096)

  pub kept_block : i < block_count size → (i < first) ⊎ (first + length pieces ≤ i) → changed_block blocks size first pieces i ≡ blocks i
  kept_block lt (inl below) = rw (lt-ltb i (block_count size) lt) (laid_below blocks first pieces i below)
  kept_block lt (inr past) = rw (lt-ltb i (block_count size) lt) (laid_past blocks first pieces i past)

  piece_length : i < block_count size → first ≤ i → i < first + length pieces → AreWhole pieces → length (changed_block blocks size first pieces i) ≡ 4096
  piece_length lt le within whole =
      rw (lt-ltb i (block_count size) lt) (ap length (laid_in blocks first pieces i [] le within) ∙ whole (i - first) (omega (arith, le, within)))

  -- one of the pieces, or past the end
  pub put_length : first ≤ i → i < first + length pieces → AreWhole pieces → length (changed_block blocks size first pieces i) ≡ 4096
  put_length le within whole = elim (cases_lt i (block_count size)) [
    | inl lt ↦ piece_length lt le within whole
    | inr past ↦ past_length past
  ]

  -- where the block has its bytes, so it has then
  pub same_length : (i < first) ⊎ (first + length pieces ≤ i) → length (blocks i) ≡ 4096 → length (changed_block blocks size first pieces i) ≡ 4096
  same_length out whole = elim (cases_lt i (block_count size)) [
    | inl lt ↦ ap length (kept_block lt out) ∙ whole
    | inr past ↦ past_length past
  ]

-- the pieces of a write are just the blocks that it falls into
module _ (offset count n i : ℕ) (are : offset / 4096 + n ≡ block_count (offset + count)) where
  pub written_in : IsWritten offset count i → (offset / 4096 ≤ i) × (i < offset / 4096 + n)
  written_in is = (omega (arith, is.below), omega (arith, are, is.above))

  pub written_out : 0 < count → (IsWritten offset count i → ⊥) → (i < offset / 4096) ⊎ (offset / 4096 + n ≤ i)
  written_out some out = elim (cases_lt i (offset / 4096)) [
    | inl below ↦ inl below
    | inr reached ↦ elim (cases_lt i (offset / 4096 + n)) [
      | inl within ↦ absurd (out (record { above = omega (arith, are, within); below = omega (arith, reached) }))
      | inr past ↦ inr past
    ]
  ]

-- a write that isn't of the whole block leaves some of it
pub leaves_part : (offset count i : ℕ) → 4096 * i < offset + count → offset < 4096 * i + 4096 → ((offset ≤ 4096 * i) → (4096 * i + 4096 ≤ offset + count) → ⊥) → IsPartlyWritten offset count i
leaves_part offset count i above below some = record {
  above = above;
  below = below;
  part = elim (cases_lt (4096 * i) offset) [
    | inl before ↦ inl before
    | inr reached ↦ elim (cases_lt (offset + count) (4096 * i + 4096)) [
      | inl behind ↦ inr behind
      | inr past ↦ absurd (some reached past)
    ]
  ];
}

-- a file is truncated, or stays in its inode
pub truncated_level : (old new : ℕ) → (new < old) ⊎ ((old < new) × (new ≤ INLINE_BYTES)) → (new < old) ⊎ (new ≤ INLINE_BYTES)
truncated_level old new (inl smaller) = inl smaller
truncated_level old new (inr within) = inr within.1
