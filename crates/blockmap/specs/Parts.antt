-- The entries of one block of the map.
use Rattle.std.specs.Prelude.{ℕ, ◌≡◌, ◌==◌, ◌<◌, List, length, slice_index, count_by, Bool, Option, Some, None, is_some}
use Rattle.layout.specs.Maps.{map_entry}
use Rattle.layout.specs.declared.TheConstants.{BLOCK_POINTERS}
use Rattle.blockmap.specs.Bits.{HasBit}

-- the entries as they are settled, those that the next consistency point makes of them, and whether
-- it stores them
pub record Part : Type 0 where
  pub settled : List ℕ
  pub entries : List ℕ
  pub is_touched : Bool

-- how many of these entries are those of free blocks
abbrev pub free_entries : List ℕ → ℕ
free_entries entries = count_by (λ e. e == 0) entries

-- a block's entries, and beside them how many settled ones are free
pub record IsMapPart (p : Part) (free : ℕ) : Type 0 where
  pub settled : length p.settled ≡ BLOCK_POINTERS
  pub entries : length p.entries ≡ BLOCK_POINTERS
  pub counted : free ≡ free_entries p.settled

abbrev pub or_else : Option (List ℕ) → List ℕ → List ℕ
or_else (Some entries) settled = entries
or_else None settled = settled

abbrev pub map_part_of : List ℕ → Option (List ℕ) → Part
map_part_of settled changed =
    record { settled = settled; entries = or_else changed settled; is_touched = is_some changed }

-- one of a block's entries is in set k
abbrev pub HasSet : ℕ → List ℕ → Type 0
HasSet k entries = (i : ℕ) × (i < BLOCK_POINTERS) × HasBit k (slice_index entries i)

-- a block of the map that spells these entries
abbrev pub Spells : List ℕ → List ℕ → Type 0
Spells bytes entries = (i : ℕ) → i < BLOCK_POINTERS → map_entry bytes i ≡ slice_index entries i
