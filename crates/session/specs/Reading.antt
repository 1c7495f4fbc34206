-- Lines of input, taken one by one from its known bytes.
use Rattle.std.specs.Prelude.{ℕ, ◌≡◌, ◌≢◌, ◌≤◌, ◌<◌, ◌⊎◌, ◌∷◌, ◌++◌, ◌==◌, false, List, [], Option, Some, None, Result, Ok, Err, All, length}
use Rattle.std.specs.Io.KnownBytes.{IsAtEnd}
use Rattle.session.specs.Scripts.{is_skipped}
use Rattle.session.specs.declared.reading.Heard.{Heard}
use Rattle.session.specs.declared.reading.Heard.TheVariants.{Line, TooLong}
use Rattle.session.specs.declared.reading.TheConstants.{LINE_BYTES}
use Rattle.session.specs.declared.status.Status.{Status}
use Rattle.session.specs.declared.status.Status.TheVariants.{FileFault, NoMemory}

-- no line ends in these bytes
abbrev pub IsPlain : List ℕ → Type 0
IsPlain bytes = All (λ b. (b == 10) ≡ false) bytes

-- known bytes lose a line at their beginning: with its end, or the last one, which has none and
-- isn't empty
abbrev pub Loses : Option (List ℕ) → Option (List ℕ) → List ℕ → Type 0
Loses None new line = Unit {0}
Loses (Some xs) None line = ⊥
Loses (Some xs) (Some ys) line = (xs ≡ line ++ 10 ∷ ys) ⊎ ((xs ≡ line) × (ys ≡ []) × (line ≢ []))

-- A line was taken from the beginning of known bytes.
pub record TakesLine (old new : Option (List ℕ)) (line : List ℕ) : Type 0 where
  pub plain : IsPlain line
  pub loses : Loses old new line

-- what a line is heard as: its bytes, or of a longer one whether it is a comment
abbrev pub IsHeardAs : List ℕ → Heard → Type 0
IsHeardAs line (Line bytes) = (bytes.items ≡ line) × (length line ≤ LINE_BYTES)
IsHeardAs line (TooLong is_comment) = (LINE_BYTES < length line) × (is_comment ≡ is_skipped line)

-- why no line is read: the input can't be, or there is no memory
abbrev pub IsInputFault : Status → Type 0
IsInputFault FileFault = Unit {0}
IsInputFault NoMemory = Unit {0}
IsInputFault status = ⊥

-- how the reading of a line from known bytes ends
abbrev pub EndsReading : Option (List ℕ) → Option (List ℕ) → Result (Option Heard) Status → Type 0
EndsReading old new (Ok (Some heard)) = (line : List ℕ) × TakesLine old new line × IsHeardAs line heard
EndsReading old new (Ok None) = IsAtEnd old
EndsReading old new (Err status) = IsInputFault status
