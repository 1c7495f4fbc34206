-- The station of an image, and what letting go of it comes to.
use Rattle.std.specs.Prelude.{◌≡◌, Bool, true, false, Option, None, Result, Ok, IfOk, IsErr}
use Rattle.station.specs.Moments.{Meaning, MayLeave, EachCut, FitsNumbers, HasSizes}
use Rattle.file_station.specs.Files.{claims_nothing}
use Rattle.file_station.specs.Stations.{station_of}
use Rattle.file_station.specs.declared.file_fault.FileFault.{FileFault}
use Rattle.memory_station.specs.Sim.{sim_meaning, was_cut}
use Rattle.memory_station.specs.DeviceLaws as sims
use Rattle.host_files.specs.Names.{HasOneName}
use Rattle.host_files.specs.declared.error.FileError.{FileError}
use Rattle.host_files.specs.declared.image.Image.{Image}
use Rattle.host_files.specs.declared.image_station.ImageStation.{ImageStation}
use Rattle.host_files.specs.declared.image_station.ImageStation.TheVariants.{Files, Patched, Memory}

-- It is what the station in it is. Of files of the system nothing is claimed but their lengths.
abbrev pub meaning_of : ImageStation → Meaning
meaning_of (Files s) =
    let files = claims_nothing s.files.disk_bytes s.files.nvram_bytes in
    station_of files s.failed_reads s.failed_writes
meaning_of (Patched s) =
    let files = claims_nothing s.files.disk_bytes s.files.nvram_bytes in
    station_of files s.failed_reads s.failed_writes
meaning_of (Memory sim held) = sim_meaning sim

-- its power was cut
abbrev pub is_cut_off : ImageStation → Bool
is_cut_off (Files s) = false
is_cut_off (Patched s) = false
is_cut_off (Memory sim held) = was_cut sim

-- What letting go of an image gives, where it is stored with true: the first call that failed on
-- its files, or why it isn't stored.
abbrev pub ClosesAs : ImageStation → Bool → Image
    → Result (Option FileFault) FileError → Type 0
ClosesAs (Files s) stores image result = result ≡ Ok s.files.fault
ClosesAs (Patched s) stores image result = result ≡ Ok None
ClosesAs (Memory sim held) false image result = result ≡ Ok None
ClosesAs (Memory sim held) true image result =
    (HasOneName image → IsErr result) × IfOk result (λ fault. fault ≡ None)

-- the laws of a station
pub sizes_fit : (s : ImageStation) → FitsNumbers (meaning_of s)
sizes_fit (Files s) = record { sectors = s.fits.sectors; nvram = s.fits.nvram }
sizes_fit (Patched s) = record { sectors = s.fits.sectors; nvram = s.fits.nvram }
sizes_fit (Memory sim held) = record { sectors = sim.media.fits; nvram = sim.media.nvram_fits }

pub seen_may_be_left : (s : ImageStation)
    → (meaning_of s).is_honest → MayLeave (meaning_of s) (meaning_of s).seen
seen_may_be_left (Files s) honest = absurd honest
seen_may_be_left (Patched s) honest = absurd honest
seen_may_be_left (Memory sim held) honest = sims.seen_may_be_left sim

pub sized : (s : ImageStation) → EachCut (meaning_of s) (HasSizes (meaning_of s))
sized (Files s) = λ honest. absurd honest
sized (Patched s) = λ honest. absurd honest
sized (Memory sim held) = sims.sized sim
