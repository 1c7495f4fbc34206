-- Bytes, or blocks, by their positions.
use Rattle.std.specs.Prelude.{ℕ, ◌≡◌, ◌+◌, ◌-◌, ◌<◌, List, length, slice_index, slice_index_or, nat_le, nat_lt, ◌&&◌, if◌then◌else◌}
pub use Rattle.layout.specs.FileBytes.{first_bytes}

-- bytes by position, with these from one position on
abbrev pub with_bytes_at : (ℕ → ℕ) → ℕ → List ℕ → ℕ → ℕ
with_bytes_at f at bytes p = if nat_le at p && nat_lt p (at + length bytes) then slice_index bytes (p - at) else f p

-- bytes by position, and zeros from one position on
abbrev pub truncate : (ℕ → ℕ) → ℕ → ℕ → ℕ
truncate f size p = if nat_lt p size then f p else 0

-- a list has these bytes by position, counted from one position on
abbrev pub IsPart : (ℕ → ℕ) → ℕ → List ℕ → Type 0
IsPart f at bytes = (k : ℕ) → k < length bytes → slice_index bytes k ≡ f (at + k)

-- values by position, with these from one position on
abbrev pub laid : {X : Type 0} → (ℕ → X) → ℕ → List X → ℕ → X
laid f at xs p = if nat_le at p then slice_index_or xs (p - at) (f p) else f p
