-- Names and texts, which a zero byte ends.
use Rattle.std.specs.Prelude.{ℕ, ◌≢◌, List, [], ◌∷◌, ◌++◌, Option, Some, None, All, ◌==◌, if◌then◌else◌}
use Rattle.layout.specs.Format.{Format}
use Rattle.layout.specs.Reading.{◌>>=◌}

-- the bytes up to the first that is 0, and those behind that
abbrev pub ended_at : List ℕ → Option (List ℕ × List ℕ)
ended_at [] = None
ended_at (byte ∷ bytes) =
    if byte == 0 then Some ([], bytes) else (ended_at bytes >>= λ x. Some (byte ∷ x.0, x.1))

-- bytes of which none is 0, and a zero byte behind them
abbrev pub ended : Format (List ℕ)
ended = record { at = ended_at; text = λ name. name ++ 0 ∷ []; Fits = All (λ byte. byte ≢ 0) }
