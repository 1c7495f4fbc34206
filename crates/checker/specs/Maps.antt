-- A block of the block map, against what the trees name.
use Rattle.std.specs.Prelude.{ℕ, ◌≡◌, ◌≢◌, ◌+◌, ◌-◌, ◌*◌, ◌<◌, ◌==◌, if◌then◌else◌, min, List, slice_index}
use Rattle.layout.specs.Maps.{map_entry}
use Rattle.images.specs.Sums.{sum_below}
use Rattle.checker.specs.declared.error.CheckEnd.{CheckEnd}
use Rattle.checker.specs.declared.error.CheckEnd.TheVariants as halts
use Rattle.checker.specs.declared.fault.Fault.{Fault}
use Rattle.checker.specs.declared.fault.Fault.TheVariants.{MapBit}

-- how many entries of block j are of the disk
abbrev pub entries_in : ℕ → ℕ → ℕ
entries_in blocks j = min 1024 (blocks - 1024 * j)

-- the entries of block j are those that they should be, and so many are free
abbrev pub HasEntries : List ℕ → ℕ → ℕ → List ℕ → ℕ → Type 0
HasEntries bytes blocks j marks free =
    ((i : ℕ) → i < entries_in blocks j → map_entry bytes i ≡ slice_index marks (1024 * j + i))
    × (free ≡ sum_below (λ i. if map_entry bytes i == 0 then 1 else 0) (entries_in blocks j))

-- one isn't
abbrev pub IsMapFault : List ℕ → ℕ → ℕ → List ℕ → Fault → Type 0
IsMapFault bytes blocks j marks fault =
    (i : ℕ) × (i < entries_in blocks j) × (map_entry bytes i ≢ slice_index marks (1024 * j + i))
    × (fault ≡ MapBit (1024 * j + i) (map_entry bytes i) (slice_index marks (1024 * j + i)))

-- a part of a check ended by a fault
abbrev pub IsFound : CheckEnd → Type 0
IsFound (halts.Fault fault) = Unit {0}
IsFound halts.NoMemory = ⊥
IsFound halts.Device = ⊥
