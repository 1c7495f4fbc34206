-- A part of a list, and the first bytes of a file as one.
use Rattle.std.proofs.Common.{◌≡◌, ℕ, ◌+◌, ◌<◌, List, length, take, drop, slice_index, ◌∙◌}
use Rattle.std.proofs.lemmas.List.{get_or-take, get_or-drop}
use Rattle.std.proofs.lemmas.List.FromFn.{length-map-range_with_len}
use Rattle.layout.specs.FileBytes.{first_bytes}

pub slice_index-between : (xs : List ℕ) (a n k : ℕ) → k < n → slice_index (take n (drop a xs)) k ≡ slice_index xs (a + k)
slice_index-between xs a n k lt = get_or-take n (drop a xs) k 0 lt ∙ get_or-drop a xs k 0

pub length-first_bytes : (f : ℕ → ℕ) (size : ℕ) → length (first_bytes f size) ≡ size
length-first_bytes f size = length-map-range_with_len f 0 size
