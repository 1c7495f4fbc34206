-- Blocks of the trees' inode files, each kept once.
use Rattle.std.proofs.Common.{◌≡◌, ◌∙◌, ℕ, suc, ◌<◌, List, ◌++◌, ◌∷◌, [], get_or, length, map, refl, ap, arith, sym, subst}
use Rattle.std.specs.Prelude.{All, Some, slice_get}
use Rattle.std.proofs.lemmas.List.{length-map, get_or-map, get_or_append_left, get_or_push, map_push}
use Rattle.std.proofs.lemmas.Option.{get_or_from_slice_get, slice_get_within}
use Rattle.layout.specs.Places.{Blocks, pointed}
use Rattle.layout.specs.declared.pointer.Pointer.{Pointer}
use Rattle.checker.specs.Rows.{block_in, picked}
use Rattle.checker.specs.declared.rows.Row.{Row}

abbrev bytes_of : Row → List ℕ
bytes_of r = r.block

module _ (blocks : List Row) where
  pub block_at : (w : ℕ) (r : Row) → slice_get blocks w ≡ Some r → block_in blocks w ≡ r.block
  block_at w r at = get_or-map bytes_of blocks w r [] (slice_get_within blocks w r at) ∙ ap bytes_of (get_or_from_slice_get blocks w r r at)

  pub picked_length : (which : List ℕ) → length (picked blocks which) ≡ length which
  unfolding picked
  picked_length which = length-map which (block_in blocks)

  pub picked_none : (which : List ℕ) → which ≡ [] → picked blocks which ≡ []
  unfolding picked
  picked_none which is = ap (map (block_in blocks)) is

  pub picked_push : (which : List ℕ) (w : ℕ) → picked blocks (which ++ w ∷ []) ≡ picked blocks which ++ block_in blocks w ∷ []
  unfolding picked
  picked_push which w = map_push (block_in blocks) which w

  pub picked_at : (which : List ℕ) (k : ℕ) → k < length which → get_or (picked blocks which) k [] ≡ block_in blocks (get_or which k 0)
  unfolding picked
  picked_at which k lt = get_or-map (block_in blocks) which k 0 [] lt

  -- one that was read at a place
  pub read_there : (disk : Blocks) (w : ℕ) (r : Row) (place : Pointer) → All (λ v. v.block ≡ pointed disk v.place) blocks → slice_get blocks w ≡ Some r → r.place ≡ place
      → block_in blocks w ≡ pointed disk place
  read_there disk w r place are at is =
      let one = get_or_from_slice_get blocks w r r at in
      block_at w r at ∙ subst (λ (v : Row). v.block ≡ pointed disk v.place) one (are w r (slice_get_within blocks w r at)) ∙ ap (pointed disk) is

  -- with one block more
  module _ (r : Row) where
    block_kept : (w : ℕ) → w < length blocks → block_in (blocks ++ r ∷ []) w ≡ block_in blocks w
    block_kept w lt =
        ap (λ (bs : List (List ℕ)). get_or bs w []) (map_push bytes_of blocks r) ∙ get_or_append_left (map bytes_of blocks) (r.block ∷ []) [] w (omega (arith, lt, length-map blocks bytes_of))

    block_last : block_in (blocks ++ r ∷ []) (length blocks) ≡ r.block
    block_last = ap (λ (bs : List (List ℕ)). get_or bs (length blocks) []) (map_push bytes_of blocks r) ∙ get_or_push (map bytes_of blocks) r.block [] (length blocks) (length-map blocks bytes_of)

    all_kept : (which : List ℕ) → All (λ w. w < length blocks) which → map (block_in (blocks ++ r ∷ [])) which ≡ map (block_in blocks) which
    all_kept [] within = refl
    all_kept (w ∷ which) within =
        ap (λ (b : List ℕ). b ∷ map (block_in (blocks ++ r ∷ [])) which) (block_kept w (within 0 0 (omega arith)))
        ∙ ap (λ (bs : List (List ℕ)). block_in blocks w ∷ bs) (all_kept which (λ k d lt. within (suc k) d (omega (arith, lt))))

    pub picked_more : (which : List ℕ) → All (λ w. w < length blocks) which → picked (blocks ++ r ∷ []) (which ++ length blocks ∷ []) ≡ picked blocks which ++ r.block ∷ []
    unfolding picked
    picked_more which within =
        map_push (block_in (blocks ++ r ∷ [])) which (length blocks) ∙ ap (λ (b : List ℕ). map (block_in (blocks ++ r ∷ [])) which ++ b ∷ []) block_last
        ∙ ap (λ (bs : List (List ℕ)). bs ++ r.block ∷ []) (all_kept which within)

-- ---- the last of some rows

pub last_is : (old new : List (List ℕ)) (row : List ℕ) → new ≡ old ++ row ∷ [] → get_or new (length old) [] ≡ row
last_is old new row is = ap (λ (rs : List (List ℕ)). get_or rs (length old) []) is ∙ get_or_push old row [] (length old) refl

pub with_last : (old new : List (List ℕ)) (row : List ℕ) → new ≡ old ++ row ∷ [] → new ≡ old ++ get_or new (length old) [] ∷ []
with_last old new row is = is ∙ ap (λ (b : List ℕ). old ++ b ∷ []) (sym (last_is old new row is))
