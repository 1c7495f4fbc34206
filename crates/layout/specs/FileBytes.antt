-- The bytes of a file, by position and as a list.
use Rattle.std.specs.Prelude.{ℕ, ◌≡◌, ◌/◌, ◌%◌, ◌≤◌, List, map, slice_index}
use Rattle.std.specs.List.{range_with_len}

-- the byte at a position of these blocks
abbrev pub byte_in : (ℕ → List ℕ) → ℕ → ℕ
byte_in blocks p = slice_index (blocks (p / 4096)) (p % 4096)

-- the first bytes as a list
abbrev pub first_bytes : (ℕ → ℕ) → ℕ → List ℕ
first_bytes f size = map f (range_with_len 0 size)

-- no byte past the size is other than 0
abbrev pub EndsAt : ℕ → (ℕ → ℕ) → Type 0
EndsAt size f = (p : ℕ) → size ≤ p → f p ≡ 0
