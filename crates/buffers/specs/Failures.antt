-- Counts of the device calls that failed.
use Rattle.std.specs.Prelude.{ℕ}
use Rattle.station.specs.Moments as moments

-- a count has gone up, or is at its last value
abbrev pub HasGrown : ℕ → ℕ → Type 0
HasGrown old new = moments.HasGrown old new
