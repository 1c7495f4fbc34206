-- Bytes by position, block by block.
use Rattle.std.proofs.Common.{◌≡◌, ◌≢◌, ℕ, ◌+◌, ◌-◌, ◌*◌, ◌/◌, ◌%◌, ◌<◌, ◌≤◌, ◌++◌, List, [], ◌∷◌, length, get_or, take, drop, slice_index, refl, sym, ◌∙◌, ap, subst, inl, inr, ◌⊎◌, true, false, arith, ltb, leb, ◌&&◌, min, max, if◌then◌else◌}
use Rattle.std.proofs.lemmas.Bool.{cases_lt}
use Rattle.std.proofs.lemmas.Bool.Decides.{nat_tests}
use Rattle.std.proofs.lemmas.List.{get_or_append_left, get_or-append_right, length-take, length-drop, get_or_past, get_or_default, length_push}
use Rattle.layout.specs.Bytes.{zeros}
use Rattle.buffers.specs.Positions.{with_bytes_at, laid, truncate}
use Rattle.blocktree.specs.Places.{block_count}
use Rattle.layout.specs.FileBytes.{byte_in}
use Rattle.inode.specs.Changes.{changed_block}
use Rattle.images.specs.Edges.{IsPartlyWritten}
pub use Rattle.layout.proofs.PartLaws.{slice_index-between}
use Rattle.layout.proofs.ZeroLaws.{zero_byte}

pub slice_index-zeros : (n k : ℕ) → slice_index (zeros n) k ≡ 0
slice_index-zeros n k = zero_byte k n

-- ---- what is written, by cases

pub written_below : (f : ℕ → ℕ) (at : ℕ) (bytes : List ℕ) (p : ℕ) → p < at → with_bytes_at f at bytes p ≡ f p
written_below f at bytes p lt = grind (arith, nat_tests)

pub written_above : (f : ℕ → ℕ) (at : ℕ) (bytes : List ℕ) (p : ℕ) → at + length bytes ≤ p → with_bytes_at f at bytes p ≡ f p
written_above f at bytes p le = grind (arith, nat_tests)

pub written_in : (f : ℕ → ℕ) (at : ℕ) (bytes : List ℕ) (p : ℕ) → at ≤ p → p < at + length bytes → with_bytes_at f at bytes p ≡ slice_index bytes (p - at)
written_in f at bytes p le lt = grind (arith, nat_tests)

-- ---- positions in blocks

pub byte_in_block : (blocks : ℕ → List ℕ) (i r : ℕ) → r < 4096 → byte_in blocks (4096 * i + r) ≡ slice_index (blocks i) r
byte_in_block blocks i r lt =
    let quotient : (4096 * i + r) / 4096 ≡ i = omega arith in
    let rest : (4096 * i + r) % 4096 ≡ r = omega arith in
    ap (λ (q : ℕ). slice_index (blocks q) ((4096 * i + r) % 4096)) quotient ∙ ap (slice_index (blocks i)) rest

-- the part of a write that falls into one block
pub written_piece : (f g : ℕ → ℕ) (offset : ℕ) (bytes part : List ℕ) (start from to r : ℕ) → from ≡ max offset start → to ≡ min (offset + length bytes) (start + 4096) → offset < start + 4096 → start < offset + length bytes
    → part ≡ take (to - offset - (from - offset)) (drop (from - offset) bytes) → r < 4096 → (to - from ≢ 4096 → g r ≡ f (start + r)) → with_bytes_at g (from - start) part r ≡ with_bytes_at f offset bytes (start + r)
written_piece f g offset bytes part start from to r from_is to_is below above part_is lt same =
    let len : length part ≡ to - from = ap length part_is ∙ omega (arith, length-take (to - offset - (from - offset)) (drop (from - offset) bytes), length-drop (from - offset) bytes) in
    elim (cases_lt (start + r) offset) [
      | inl out ↦ written_below g (from - start) part r (omega arith) ∙ same (λ whole. omega (arith, whole, from_is, to_is, out)) ∙ sym (written_below f offset bytes (start + r) out)
      | inr reached ↦ elim (cases_lt (start + r) (offset + length bytes)) [
        | inl within ↦
            let place : from - offset + (r - (from - start)) ≡ start + r - offset = omega arith in
            written_in g (from - start) part r (omega arith) (omega arith)
            ∙ ap (λ (b : List ℕ). slice_index b (r - (from - start))) part_is
            ∙ slice_index-between bytes (from - offset) (to - offset - (from - offset)) (r - (from - start)) (omega arith)
            ∙ ap (slice_index bytes) place
            ∙ sym (written_in f offset bytes (start + r) reached within)
        | inr past ↦ written_above g (from - start) part r (omega arith) ∙ same (λ whole. omega (arith, whole, from_is, to_is, past, lt)) ∙ sym (written_above f offset bytes (start + r) past)
      ]
    ]

-- ---- a change of blocks that lie one behind the other

pub laid_below : {X : Type 0} (f : ℕ → X) (first : ℕ) (xs : List X) (i : ℕ) → i < first → laid f first xs i ≡ f i
laid_below f first xs i lt = rw (below first i lt) refl
  where
    below : (first i : ℕ) → i < first → leb first i ≡ false
    below first i lt = grind (arith, nat_tests)

pub laid_past : {X : Type 0} (f : ℕ → X) (first : ℕ) (xs : List X) (i : ℕ) → first + length xs ≤ i → laid f first xs i ≡ f i
laid_past f first xs i le = rw (reached first i (omega arith)) (get_or_past xs (i - first) (f i) (omega arith))
  where
    reached : (first i : ℕ) → first ≤ i → leb first i ≡ true
    reached first i le = grind (arith, nat_tests)

pub laid_in : {X : Type 0} (f : ℕ → X) (first : ℕ) (xs : List X) (i : ℕ) (d : X) → first ≤ i → i < first + length xs → laid f first xs i ≡ get_or xs (i - first) d
laid_in f first xs i d le lt = rw (reached first i le) (get_or_default xs (i - first) (f i) d (omega arith))
  where
    reached : (first i : ℕ) → first ≤ i → leb first i ≡ true
    reached first i le = grind (arith, nat_tests)

pub changed_past : (blocks : ℕ → List ℕ) (size first : ℕ) (pieces : List (List ℕ)) (p : ℕ) → block_count size ≤ p / 4096 → byte_in (changed_block blocks size first pieces) p ≡ 0
changed_past blocks size first pieces p past = rw (beyond (p / 4096) (block_count size) past) (slice_index-zeros 4096 (p % 4096))
  where
    beyond : (i n : ℕ) → n ≤ i → ltb i n ≡ false
    beyond i n le = grind (arith, nat_tests)

pub changed_within : (blocks : ℕ → List ℕ) (size first : ℕ) (pieces : List (List ℕ)) (p : ℕ) → p / 4096 < block_count size → byte_in (changed_block blocks size first pieces) p ≡ slice_index (laid blocks first pieces (p / 4096)) (p % 4096)
changed_within blocks size first pieces p within = rw (below (p / 4096) (block_count size) within) refl
  where
    below : (i n : ℕ) → i < n → ltb i n ≡ true
    below i n lt = grind (arith, nat_tests)

pub write_laid : (blocks : ℕ → List ℕ) (old_size size offset : ℕ) (bytes : List ℕ) (first : ℕ) (pieces : List (List ℕ)) → first ≡ offset / 4096 → 0 < length bytes → size ≡ max old_size (offset + length bytes)
    → first + length pieces ≡ block_count (offset + length bytes)
    → ((p : ℕ) → old_size ≤ p → byte_in blocks p ≡ 0)
    → ((j : ℕ) → j < length pieces → (r : ℕ) → r < 4096 → slice_index (get_or pieces j []) r ≡ with_bytes_at (byte_in blocks) offset bytes (4096 * (first + j) + r))
    → (p : ℕ) → byte_in (changed_block blocks size first pieces) p ≡ with_bytes_at (byte_in blocks) offset bytes p
write_laid blocks old_size size offset bytes first pieces first_is some size_is count zero_past pieces_are p =
    elim (cases_lt (p / 4096) (block_count size)) [
      | inr past ↦
          changed_past blocks size first pieces p past ∙ sym (zero_past p (omega arith)) ∙ sym (written_above (byte_in blocks) offset bytes p (omega arith))
      | inl within ↦ changed_within blocks size first pieces p within ∙ elim (cases_lt (p / 4096) first) [
        | inl below ↦
            ap (λ (b : List ℕ). slice_index b (p % 4096)) (laid_below blocks first pieces (p / 4096) below) ∙ sym (written_below (byte_in blocks) offset bytes p (omega arith))
        | inr reached ↦ elim (cases_lt (p / 4096) (first + length pieces)) [
          | inl here ↦
              let place : 4096 * (first + (p / 4096 - first)) + p % 4096 ≡ p = omega arith in
              ap (λ (b : List ℕ). slice_index b (p % 4096)) (laid_in blocks first pieces (p / 4096) [] reached here)
              ∙ pieces_are (p / 4096 - first) (omega arith) (p % 4096) (omega arith)
              ∙ ap (with_bytes_at (byte_in blocks) offset bytes) place
          | inr behind ↦
              ap (λ (b : List ℕ). slice_index b (p % 4096)) (laid_past blocks first pieces (p / 4096) behind) ∙ sym (written_above (byte_in blocks) offset bytes p (omega arith))
        ]
      ]
    ]

-- ---- truncating

pub truncated_below : (f : ℕ → ℕ) (size p : ℕ) → p < size → truncate f size p ≡ f p
truncated_below f size p lt = grind (arith, nat_tests)

pub truncated_past : (f : ℕ → ℕ) (size p : ℕ) → size ≤ p → truncate f size p ≡ 0
truncated_past f size p le = grind (arith, nat_tests)

pub laid_none : {X : Type 0} (f : ℕ → X) (first i : ℕ) → laid f first [] i ≡ f i
laid_none f first i = elim (cases_lt i first) [ inl lt ↦ laid_below f first [] i lt | inr le ↦ laid_past f first [] i (omega arith) ]

-- nothing of the last block is cut away
pub truncated_laid_none : (blocks : ℕ → List ℕ) (old_size size first : ℕ) (pieces : List (List ℕ)) → pieces ≡ [] → ((old_size ≤ size) ⊎ (size % 4096 ≡ 0)) → ((p : ℕ) → old_size ≤ p → byte_in blocks p ≡ 0)
    → (p : ℕ) → byte_in (changed_block blocks size first pieces) p ≡ truncate (byte_in blocks) size p
truncated_laid_none blocks old_size size first pieces none whole zero_past p =
    elim (cases_lt (p / 4096) (block_count size)) [
      | inr past ↦ changed_past blocks size first pieces p past ∙ sym (truncated_past (byte_in blocks) size p (omega arith))
      | inl within ↦
          changed_within blocks size first pieces p within
          ∙ ap (λ (ps : List (List ℕ)). slice_index (laid blocks first ps (p / 4096)) (p % 4096)) none
          ∙ ap (λ (b : List ℕ). slice_index b (p % 4096)) (laid_none blocks first (p / 4096))
          ∙ elim (cases_lt p size) [
            | inl lt ↦ sym (truncated_below (byte_in blocks) size p lt)
            | inr le ↦ elim whole [
              | inl wide ↦ zero_past p (omega arith) ∙ sym (truncated_past (byte_in blocks) size p le)
              | inr even ↦ absurd (omega arith)
            ]
          ]
    ]

-- what is cut away of the last block is zeros
pub truncated_laid_hole : (blocks : ℕ → List ℕ) (size first : ℕ) (pieces : List (List ℕ)) → pieces ≡ [] → blocks (size / 4096) ≡ zeros 4096
    → (p : ℕ) → byte_in (changed_block blocks size first pieces) p ≡ truncate (byte_in blocks) size p
truncated_laid_hole blocks size first pieces none hole p =
    elim (cases_lt (p / 4096) (block_count size)) [
      | inr past ↦ changed_past blocks size first pieces p past ∙ sym (truncated_past (byte_in blocks) size p (omega arith))
      | inl within ↦
          changed_within blocks size first pieces p within
          ∙ ap (λ (ps : List (List ℕ)). slice_index (laid blocks first ps (p / 4096)) (p % 4096)) none
          ∙ ap (λ (b : List ℕ). slice_index b (p % 4096)) (laid_none blocks first (p / 4096))
          ∙ elim (cases_lt p size) [
            | inl lt ↦ sym (truncated_below (byte_in blocks) size p lt)
            | inr le ↦
                let here : p / 4096 ≡ size / 4096 = omega arith in
                ap (λ (i : ℕ). slice_index (blocks i) (p % 4096)) here
                ∙ ap (λ (b : List ℕ). slice_index b (p % 4096)) hole
                ∙ slice_index-zeros 4096 (p % 4096)
                ∙ sym (truncated_past (byte_in blocks) size p le)
          ]
    ]

-- the last block is truncated
pub truncated_laid_one : (blocks : ℕ → List ℕ) (size first rest : ℕ) (block : List ℕ) (pieces : List (List ℕ)) → first ≡ size / 4096 → rest ≡ size % 4096 → (rest ≡ 0 → ⊥) → pieces ≡ block ∷ []
    → ((r : ℕ) → r < 4096 → slice_index block r ≡ truncate (slice_index (blocks first)) rest r)
    → (p : ℕ) → byte_in (changed_block blocks size first pieces) p ≡ truncate (byte_in blocks) size p
truncated_laid_one blocks size first rest block pieces first_is rest_is some one block_is p =
    elim (cases_lt (p / 4096) (block_count size)) [
      | inr past ↦ changed_past blocks size first pieces p past ∙ sym (truncated_past (byte_in blocks) size p (omega arith))
      | inl within ↦
          changed_within blocks size first pieces p within
          ∙ ap (λ (ps : List (List ℕ)). slice_index (laid blocks first ps (p / 4096)) (p % 4096)) one
          ∙ elim (cases_lt (p / 4096) first) [
            | inl below ↦
                ap (λ (b : List ℕ). slice_index b (p % 4096)) (laid_below blocks first (block ∷ []) (p / 4096) below)
                ∙ sym (truncated_below (byte_in blocks) size p (omega arith))
            | inr reached ↦
                let here : p / 4096 ≡ first = omega arith in
                let none : p / 4096 - first ≡ 0 = omega arith in
                ap (λ (b : List ℕ). slice_index b (p % 4096)) (laid_in blocks first (block ∷ []) (p / 4096) [] reached (omega arith))
                ∙ ap (λ (n : ℕ). slice_index (get_or (block ∷ []) n []) (p % 4096)) none
                ∙ block_is (p % 4096) (omega arith)
                ∙ elim (cases_lt p size) [
                  | inl lt ↦ truncated_below (slice_index (blocks first)) rest (p % 4096) (omega arith) ∙ ap (λ (n : ℕ). slice_index (blocks n) (p % 4096)) (sym here) ∙ sym (truncated_below (byte_in blocks) size p lt)
                  | inr le ↦ truncated_past (slice_index (blocks first)) rest (p % 4096) (omega arith) ∙ sym (truncated_past (byte_in blocks) size p le)
                ]
          ]
    ]

pub truncated_same : (f g : ℕ → ℕ) (size p : ℕ) → f p ≡ g p → truncate f size p ≡ truncate g size p
truncated_same f g size p e = ap (λ (x : ℕ). if ltb p size then x else 0) e

-- one more block of a write
pub piece_more : (pieces more : List (List ℕ)) (block : List ℕ) (first i : ℕ) (f : ℕ → ℕ) → more ≡ pieces ++ block ∷ [] → first + length pieces ≡ i
    → ((j : ℕ) → j < length pieces → (r : ℕ) → r < 4096 → slice_index (get_or pieces j []) r ≡ f (4096 * (first + j) + r))
    → ((r : ℕ) → r < 4096 → slice_index block r ≡ f (4096 * i + r))
    → (j : ℕ) → j < length more → (r : ℕ) → r < 4096 → slice_index (get_or more j []) r ≡ f (4096 * (first + j) + r)
piece_more pieces more block first i f is at before here j lt r within =
    let len : length more ≡ length pieces + 1 = ap length is ∙ length_push pieces block in
    ap (λ (xs : List (List ℕ)). slice_index (get_or xs j []) r) is ∙ elim (cases_lt j (length pieces)) [
      | inl below ↦ ap (λ (b : List ℕ). slice_index b r) (get_or_append_left pieces (block ∷ []) [] j below) ∙ before j below r within
      | inr last ↦
          let none : j - length pieces ≡ 0 = omega arith in
          let place : i ≡ first + j = omega arith in
          ap (λ (b : List ℕ). slice_index b r) (get_or-append_right pieces (block ∷ []) (length pieces) j [] refl last ∙ ap (λ (n : ℕ). get_or (block ∷ []) n []) none)
          ∙ here r within ∙ ap (λ (n : ℕ). f (4096 * n + r)) place
    ]

pub written_same : (f g : ℕ → ℕ) (at : ℕ) (bytes : List ℕ) (p : ℕ) → f p ≡ g p → with_bytes_at f at bytes p ≡ with_bytes_at g at bytes p
written_same f g at bytes p e = ap (λ (x : ℕ). if leb at p && ltb p (at + length bytes) then slice_index bytes (p - at) else x) e

-- a fact of each index from one on, and of the next
pub each_more : (P : ℕ → Type 0) (first n m i : ℕ) → m ≡ n + 1 → first + n ≡ i → ((j : ℕ) → j < n → P (first + j)) → P i → (j : ℕ) → j < m → P (first + j)
each_more P first n m i more at before here j lt =
    elim (cases_lt j n) [
      | inl below ↦ before j below
      | inr last ↦ let place : i ≡ first + j = omega arith in subst P place here
    ]

-- what holds of each block from a write's first one on holds of one that it changes in part
pub at_edge : (P : ℕ → Type 0) (offset count n i : ℕ) → offset / 4096 + n ≡ block_count (offset + count) → ((j : ℕ) → j < n → P (offset / 4096 + j)) → IsPartlyWritten offset count i → P i
at_edge P offset count n i count_is each part =
    let place : offset / 4096 + (i - offset / 4096) ≡ i = omega (arith, part.below) in
    subst P place (each (i - offset / 4096) (omega (arith, count_is, part.above, part.below)))
