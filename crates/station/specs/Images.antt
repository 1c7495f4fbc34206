-- What stands on a disk and an NVRAM, and the steps from one such state to the next.
use Rattle.std.specs.Prelude.{◌≡◌, ◌⊎◌, ℕ, ◌+◌, ◌-◌, ◌*◌, ◌<◌, ◌≤◌, List, [], ◌++◌, length, take, drop, if◌then◌else◌, Bool, true, false, nat_lt, nat_le, ◌&&◌}

-- what a sector holds: its bytes, or none where it can't be read
abbrev pub Sector : Type 0
Sector = List ℕ

-- a sector that can't be read
abbrev pub unreadable : Sector
unreadable = []

-- the bytes that a read of a sector gives
abbrev pub sector_bytes : Sector → List ℕ
sector_bytes sector = sector

-- a sector that was written with these bytes
abbrev pub sector_with : List ℕ → Sector
sector_with bytes = bytes

-- what a read of a sector tells: whether it can be read, and then its bytes
abbrev pub Tells : Bool → List ℕ → Sector → Type 0
Tells true out sector = out ≡ sector_bytes sector
Tells false out sector = sector ≡ unreadable

-- what each sector of the disk holds, and the bytes of the NVRAM
pub record Images : Type 0 where
  pub disk : ℕ → Sector
  pub nvram : List ℕ

-- the sectors of a disk of these bytes
abbrev pub sectors_of : List ℕ → ℕ → Sector
sectors_of disk n = sector_with (take 512 (drop (512 * n) disk))

-- the images of these bytes
abbrev pub images_of : List ℕ → List ℕ → Images
images_of disk nvram = record { disk = sectors_of disk; nvram = nvram }

-- sector n with its part of bytes that were written from sector first on
abbrev pub part_of : ℕ → List ℕ → ℕ → Sector
part_of first bytes n = sector_with (take 512 (drop (512 * (n - first)) bytes))

-- these bytes reach sector n, where the first of them is the first of sector first
abbrev pub Reaches : ℕ → List ℕ → ℕ → Type 0
Reaches first bytes n = (first ≤ n) × (512 * (n - first) < length bytes)

-- the same as a test
abbrev pub reaches : ℕ → List ℕ → ℕ → Bool
reaches first bytes n = nat_le first n && nat_lt (512 * (n - first)) (length bytes)

-- the disk with these bytes from sector first on
abbrev pub disk_with : ℕ → List ℕ → (ℕ → Sector) → ℕ → Sector
disk_with first bytes disk n = if reaches first bytes n then part_of first bytes n else disk n

-- the NVRAM with these bytes at this offset
abbrev pub nvram_with : ℕ → List ℕ → List ℕ → List ℕ
nvram_with at bytes nvram = take at nvram ++ bytes ++ drop (at + length bytes) nvram

-- nothing changes
abbrev pub Unchanged : Images → Images → Type 0
Unchanged old new = new ≡ old

-- the bytes are written, whole sectors from sector first on
abbrev pub SectorsWritten : ℕ → List ℕ → Images → Images → Type 0
SectorsWritten first bytes old new =
    new ≡ record { disk = disk_with first bytes old.disk; nvram = old.nvram }

-- any of the sectors are written: each that the bytes reach keeps what it had, takes its part of
-- them, or can't be read then; the others stay
pub record SomeSectorsWritten (first : ℕ) (bytes : List ℕ) (old new : Images) : Type 0 where
  pub nvram : new.nvram ≡ old.nvram
  pub disk : (n : ℕ) → (new.disk n ≡ old.disk n)
      ⊎ (Reaches first bytes n × ((new.disk n ≡ part_of first bytes n) ⊎ (new.disk n ≡ unreadable)))

-- the bytes are written to the NVRAM
abbrev pub NvramWritten : ℕ → List ℕ → Images → Images → Type 0
NvramWritten at bytes old new =
    new ≡ record { disk = old.disk; nvram = nvram_with at bytes old.nvram }

-- a beginning of the bytes is written to the NVRAM: none, some or all of them
pub record NvramPrefixWritten (at : ℕ) (bytes : List ℕ) (old new : Images) : Type 0 where
  pub kept : ℕ
  pub within : kept ≤ length bytes
  pub writes : NvramWritten at (take kept bytes) old new
