-- The station that two files make: sector n begins at byte 512 * n of the disk's file.
use Rattle.std.specs.Prelude.{◌≡◌, ◌⊎◌, ℕ, ◌+◌, ◌*◌, ◌/◌, ◌%◌, ◌^◌, ◌<◌, ◌≤◌, List, take, drop, Option, Some}
use Rattle.station.specs.Images.{images_of, sectors_of}
use Rattle.station.specs.Moments.{Meaning}
use Rattle.file_station.specs.Files.{FilesMeaning, ShowsFile}
use Rattle.file_station.specs.declared.image_files.Part.TheVariants.{Disk}

-- the disk's file is whole sectors, and the lengths are ones of a station
pub record FitStation (m : FilesMeaning) : Type 0 where
  pub whole : m.disk.length % 512 ≡ 0
  pub sectors : m.disk.length / 512 < 2 ^ 55
  pub nvram : m.nvram.length < 2 ^ 32

-- they aren't
abbrev pub HasBadSize : FilesMeaning → Type 0
HasBadSize m = (0 < m.disk.length % 512) ⊎ (2 ^ 32 ≤ m.nvram.length)

-- these files as a station, with these counts of calls that failed
abbrev pub station_of : FilesMeaning → ℕ → ℕ → Meaning
station_of m failed_reads failed_writes = record {
  sectors = m.disk.length / 512;
  nvram_bytes = m.nvram.length;
  failed_reads = failed_reads;
  failed_writes = failed_writes;
  is_honest = m.is_honest;
  seen = images_of m.disk.seen m.nvram.seen;
  moment = m.moment;
  left_at = λ t c.
      (d : List ℕ) × (n : List ℕ) × m.disk.left_at t d × m.nvram.left_at t n × (c ≡ images_of d n);
}

-- where a block is at hand, these are the bytes of its sectors, as many as the disk has
abbrev pub IsAtHand : FilesMeaning → Option ℕ → List ℕ → Type 0
IsAtHand m at_hand bytes =
    (block : ℕ) → at_hand ≡ Some block → ShowsFile m Disk (λ file.
    (k : ℕ) → k < 8 → 8 * block + k < m.disk.length / 512
    → take 512 (drop (512 * k) bytes) ≡ sectors_of file (8 * block + k))
