-- Something else at one place.
use Rattle.std.specs.Prelude.{ℕ, ◌==◌, if◌then◌else◌, Option}

-- a map from descriptors with something else, or nothing, at one of them
abbrev pub put_open : {X : Type 0} → ℕ → Option X → (ℕ → Option X) → ℕ → Option X
put_open fd file table d = if d == fd then file else table d
