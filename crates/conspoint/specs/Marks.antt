-- Set 0 of the map, the active tree, as the files' blocks go out of it and into it.
use Rattle.std.specs.Prelude.{ℕ, ◌≡◌, ◌≢◌, ◌<◌, List, slice_index, Bool, if◌then◌else◌}
use Rattle.std.specs.Int.{bit_at}
use Rattle.blockmap.specs.Bits.{SetsBit}
use Rattle.blockmap.specs.Parts.{Part}
use Rattle.blockmap.specs.Maps.{entry_at}

-- b is one of the first n of these blocks
abbrev pub IsAmong : List ℕ → ℕ → ℕ → Type 0
IsAmong blocks n b = (k : ℕ) × (k < n) × (slice_index blocks k ≡ b)

-- the first n of these blocks are in set 0, or out of it; all else of the entries is as before
pub record AreMarked (blocks : List ℕ) (n : ℕ) (is_in : Bool) (old new : List Part) : Type 0 where
  pub marked : (b : ℕ) → IsAmong blocks n b → bit_at (entry_at new b) 0 ≡ (if is_in then 1 else 0)
  pub stay : (b : ℕ) → (IsAmong blocks n b → ⊥) → entry_at new b ≡ entry_at old b
  pub others : (b i : ℕ) → i ≢ 0 → bit_at (entry_at new b) i ≡ bit_at (entry_at old b) i

-- a block's entry, where the blocks that this holds of are put into set 0 or taken out of it
pub data Marking (Among : ℕ → Type 0) (is_in : Bool) (old new : List Part) (b : ℕ) : Type 0 where
  marks : (is : Among b) → (bit : SetsBit 0 is_in (entry_at old b) (entry_at new b))
      → Marking Among is_in old new b
  stays : (not : Among b → ⊥) → (same : entry_at new b ≡ entry_at old b)
      → Marking Among is_in old new b
