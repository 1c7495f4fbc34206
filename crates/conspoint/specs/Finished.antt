-- The disk that a point leaves once it is carried out.
use Rattle.std.specs.Prelude.{ℕ, ◌≢◌, ◌*◌, List, [], ◌∷◌, All}
use Rattle.station.specs.Images.{Sector, disk_with}
use Rattle.conspoint.specs.Plans.{Planned}
use Rattle.conspoint.specs.declared.plan.PlannedBlock.{PlannedBlock}

-- none of these blocks has this place
abbrev pub IsAbsent : List PlannedBlock → ℕ → Type 0
IsAbsent blocks place = All (λ b. b.place ≢ place) blocks

-- the sectors of a disk with these blocks written, one after the other
unfoldable pub sectors_with_blocks : List PlannedBlock → (ℕ → Sector) → ℕ → Sector
sectors_with_blocks [] disk = disk
sectors_with_blocks (b ∷ blocks) disk =
    sectors_with_blocks blocks (disk_with (8 * b.place) b.bytes disk)

-- a disk once a point is carried out on it: all its blocks are written, and its root
abbrev pub disk_after : Planned → (ℕ → Sector) → ℕ → Sector
disk_after p disk = disk_with p.slot p.root (sectors_with_blocks p.blocks disk)
