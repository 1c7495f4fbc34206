-- The sectors of a disk.
use Rattle.std.specs.Prelude.{ℕ}
use Rattle.station.specs.Images.{Sector}
use Rattle.memory_station.specs.Disk.{sectors_with}
use Rattle.memory_station.specs.declared.disk.Disk.{Disk}

-- what the sectors of this disk hold
abbrev pub sectors_at : Disk → ℕ → Sector
sectors_at d = sectors_with d.bytes.items d.bad.items
