-- The entries of the whole map, block by block of the disk.
use Rattle.std.specs.Prelude.{ℕ, zero, suc, ◌==◌, if◌then◌else◌, ◌≡◌, ◌≢◌, ◌<◌, ◌+◌, ◌*◌, ◌/◌, ◌%◌, List, [], length, slice_index, slice_index_or, true, false}
use Rattle.layout.specs.Maps.{map_entry}
use Rattle.layout.specs.declared.TheConstants.{BLOCK_POINTERS}
use Rattle.blockmap.specs.Parts.{HasSet, Part}

abbrev pub no_part : Part
no_part = record { settled = []; entries = []; is_touched = false }

-- the settled entry of a block
abbrev pub settled_at : List Part → ℕ → ℕ
settled_at parts b = slice_index (slice_index_or parts (b / 1024) no_part).settled (b % 1024)

-- its entry as the next consistency point makes it
abbrev pub entry_at : List Part → ℕ → ℕ
entry_at parts b = slice_index (slice_index_or parts (b / 1024) no_part).entries (b % 1024)

-- these bytes are block j of the map with these entries
abbrev pub HoldsPart : List Part → ℕ → List ℕ → Type 0
HoldsPart parts j bytes =
    (i : ℕ) → i < BLOCK_POINTERS → map_entry bytes i ≡ entry_at parts (BLOCK_POINTERS * j + i)

-- a block is free when its settled entry is 0
abbrev pub IsFree : List Part → ℕ → Type 0
IsFree parts b = settled_at parts b ≡ 0

-- how many of the blocks below b are free
unfoldable pub free_below : List Part → ℕ → ℕ
free_below parts zero = 0
free_below parts (suc b) = free_below parts b + (if settled_at parts b == 0 then 1 else 0)

-- the next consistency point stores block j of the map
abbrev pub IsTouched : List Part → ℕ → Type 0
IsTouched parts j = (slice_index_or parts j no_part).is_touched ≡ true

-- an entry of block j of the map is in set k
abbrev pub HasSetAt : ℕ → List Part → ℕ → Type 0
HasSetAt k parts j = HasSet k (slice_index_or parts j no_part).entries

-- what no change of entries changes
pub record KeepsSettled (old new : List Part) : Type 0 where
  pub count : length new ≡ length old
  pub settled : (b : ℕ) → settled_at new b ≡ settled_at old b
  pub touched : (j : ℕ) → IsTouched old j → IsTouched new j

-- no entry changes but that of one block
abbrev pub OnlyChanges : ℕ → List Part → List Part → Type 0
OnlyChanges b old new = (c : ℕ) → c ≢ b → entry_at new c ≡ entry_at old c
