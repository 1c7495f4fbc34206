-- Bits of flags, and values that a bit says are given.
use Rattle.std.specs.Prelude.{ℕ, Bool, not, Option, Some, None, bit_and, ◌==◌, if◌then◌else◌}

-- whether one of these bits is set in the flags
abbrev pub is_set : ℕ → ℕ → Bool
is_set flags bit = not (bit_and flags bit == 0)

-- the value, where the bit is set
abbrev pub given : {A : Type 0} → ℕ → ℕ → A → Option A
given flags bit value = if is_set flags bit then Some value else None
