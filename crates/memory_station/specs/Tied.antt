-- How the arrays of a station in memory stand for a device.
use Rattle.std.specs.Prelude.{◌≡◌, ℕ, Bool, true, false, List, ◌∷◌}
use Rattle.station.specs.Images.{Sector}
use Rattle.memory_station.specs.Device.{Device}
use Rattle.memory_station.specs.Unsynced.{written_to, kept_value}
use Rattle.memory_station.specs.declared.history.SectorWrite.{SectorWrite}
use Rattle.memory_station.specs.declared.cut_outcome.CutOutcome.{CutOutcome}

pub record IsTied (d : Device) (disk : ℕ → Sector) (nvram : List ℕ) (settled : ℕ → Sector)
    (unsynced : List SectorWrite) (is_cut : Bool) (keep : CutOutcome) : Type 0 where
  -- before a cut the disk is what reads give, after it what the marks of the unsynced writes left
  pub seen : is_cut ≡ false → (n : ℕ) → disk n ≡ d.seen n
  pub left : is_cut ≡ true → (n : ℕ) → disk n ≡ kept_value keep 0 unsynced n (settled n)
  -- a sector holds its settled value and those of its unsynced writes
  pub held : (n : ℕ) → d.held n ≡ settled n ∷ written_to n unsynced
  pub nvram_is : d.nvram ≡ nvram
