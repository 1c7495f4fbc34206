-- The sector writes that a power cut chooses among.
use Rattle.std.specs.Prelude.{◌≡◌, ℕ, zero, suc, ◌+◌, ◌*◌, ◌/◌, ◌%◌, ◌≤◌, ◌==◌, List, [], ◌∷◌, ◌++◌, length, get_or, take, drop, fold, if◌then◌else◌}
use Rattle.station.specs.Images.{Sector, sector_with, unreadable}
use Rattle.memory_station.specs.declared.history.Call.{Call}
use Rattle.memory_station.specs.declared.history.Call.TheVariants.{Read, Write, NvWrite, Sync}
use Rattle.memory_station.specs.declared.history.SectorWrite.{SectorWrite}
use Rattle.memory_station.specs.declared.cut_outcome.CutOutcome.{CutOutcome}
use Rattle.memory_station.specs.declared.cut_outcome.CutOutcome.TheVariants.{Nothing, Everything, Bits}
use Rattle.memory_station.specs.declared.cut_outcome.Mark.{Mark}
use Rattle.memory_station.specs.declared.cut_outcome.Mark.TheVariants.{Dropped, Kept, Lost}

-- the first count sectors' parts of bytes that are written from sector first on
abbrev pub parts_of : ℕ → List ℕ → ℕ → List SectorWrite
parts_of first bytes zero = []
parts_of first bytes (suc k) =
    parts_of first bytes k ++ record { sector = first + k; bytes = take 512 (drop (512 * k) bytes) } ∷ []

-- the sector writes since the last sync that succeeded, in their order, after a call more
unfoldable pub unsynced_after : List SectorWrite → Call → List SectorWrite
unsynced_after ws Read = ws
unsynced_after ws (Write first bytes done) =
    ws ++ parts_of first bytes.items (length bytes.items / 512)
unsynced_after ws (NvWrite at bytes kept) = ws
unsynced_after ws (Sync done) = if done then [] else ws

-- the same, after these calls
unfoldable pub unsynced_writes : List Call → List SectorWrite
unsynced_writes calls = fold unsynced_after [] calls

-- a whole sector of a disk of so many bytes
abbrev pub IsInRange : ℕ → SectorWrite → Type 0
IsInRange size w = (512 * w.sector + 512 ≤ size) × (length w.bytes ≡ 512)

-- the values written to sector n, in their order
unfoldable pub written_to : ℕ → List SectorWrite → List Sector
written_to n [] = []
written_to n (w ∷ ws) =
    if w.sector == n then sector_with w.bytes ∷ written_to n ws else written_to n ws

-- what a cut does with the i-th write, counted from 0
abbrev pub mark_of : CutOutcome → ℕ → Mark
mark_of Nothing i = Dropped
mark_of Everything i = Kept
mark_of (Bits marks) i = get_or marks.items (i % length marks.items) Dropped

-- what a sector holds after a write of these bytes with this mark, where it held value
abbrev pub marked : Mark → List ℕ → Sector → Sector
marked Dropped bytes value = value
marked Kept bytes value = sector_with bytes
marked Lost bytes value = unreadable

-- the same of sector n after a sector write
abbrev pub after_mark : Mark → SectorWrite → ℕ → Sector → Sector
after_mark mark w n value = if w.sector == n then marked mark w.bytes value else value

-- what sector n holds after a cut did so with the writes, the first of which is the i-th, where it
-- held value
unfoldable pub kept_value : CutOutcome → ℕ → List SectorWrite → ℕ → Sector → Sector
kept_value keep i [] n value = value
kept_value keep i (w ∷ ws) n value = kept_value keep (suc i) ws n (after_mark (mark_of keep i) w n value)
