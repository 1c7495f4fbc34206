-- The bytes of a file that are asked for and there.
use Rattle.std.proofs.Common.{◌≡◌, ℕ, List, ◌+◌, ◌-◌, ◌<◌, length, take, drop, min, slice_index, refl, sym, ap, ◌∙◌, arith}
use Rattle.std.proofs.lemmas.List.{length-drop, length-take}
use Rattle.std.proofs.lemmas.List.FromFn.{get_or-map-range_with_len, length-map-range_with_len}
use Rattle.layout.specs.FileBytes.{first_bytes}
use Rattle.model.specs.Edits.{read_at}
use Rattle.inode.proofs.BytePositions.{slice_index-between}
use Rattle.inode.proofs.EdgeLaws.{same_bytes}

-- what is read from an offset on, as far as there is anything
pub part_read : (f : ℕ → ℕ) (size offset count start : ℕ) (bytes : List ℕ) → start ≡ min offset size → length bytes ≡ min (size - start) count
    → ((k : ℕ) → k < length bytes → slice_index bytes k ≡ f (start + k)) → bytes ≡ read_at offset count (first_bytes f size)
part_read f size offset count start bytes starts long is =
    same_bytes bytes (take count (drop offset (first_bytes f size))) (length bytes) refl
    (omega (arith, length-take count (drop offset (first_bytes f size)), length-drop offset (first_bytes f size), length-map-range_with_len f 0 size))
    (λ k lt.
    let same : start ≡ offset = omega (arith, lt) in
    let within : offset + k < size = omega (arith, lt) in
    is k lt ∙ ap (λ (n : ℕ). f (n + k)) same
    ∙ sym (slice_index-between (first_bytes f size) offset count k (omega (arith, lt)) ∙ get_or-map-range_with_len f 0 size (offset + k) (offset + k) 0 within (omega arith)))
