-- The sets of blocks that a map's entries are: block b is in set k where bit k of its entry is 1.
use Rattle.std.specs.Prelude.{ℕ, ◌≡◌, ◌≢◌, ◌<◌, Bool, if◌then◌else◌}
use Rattle.std.specs.Int.{bit_at}

-- the entry's block is in set k
abbrev pub HasBit : ℕ → ℕ → Type 0
HasBit k entry = bit_at entry k ≡ 1

-- new is old, with the block in set k or out of it
pub record SetsBit (k : ℕ) (is_in : Bool) (old new : ℕ) : Type 0 where
  pub there : bit_at new k ≡ (if is_in then 1 else 0)
  pub others : (i : ℕ) → i ≢ k → bit_at new i ≡ bit_at old i

-- of the first entries, set k is these bits, and no other set changes
pub record SetsPlane (count k : ℕ) (is_in old new : ℕ → ℕ) : Type 0 where
  pub there : (b : ℕ) → b < count → bit_at (new b) k ≡ is_in b
  pub others : (b i : ℕ) → b < count → i ≢ k → bit_at (new b) i ≡ bit_at (old b) i
