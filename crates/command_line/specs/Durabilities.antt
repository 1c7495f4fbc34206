-- When what a command does is durable, as the program's words say it.
use Rattle.std.specs.Prelude.{ℕ, Bool, false, true, List, Option, Some, None, Result, Ok, Err, if◌then◌else◌, codes}
use Rattle.std.specs.Str.{bytes_eq}
use Rattle.clap.specs.Words.{Row, Text}
use Rattle.command_line.specs.Values.{Refusal, is_set, not_understood, option_number}
use Rattle.command_line.specs.declared.durability.Durability.{Durability}
use Rattle.command_line.specs.declared.durability.Durability.TheVariants as durability

-- `--deferred` alone is 100 milliseconds
abbrev pub written_out : Text → Text
written_out word = if bytes_eq word (codes "--deferred") then codes "--deferred=100" else word

-- so many milliseconds, or together, or neither; both at once aren't understood
abbrev pub durability_by : Bool → Option ℕ → Result Durability Refusal
durability_by true (Some n) = Err not_understood
durability_by true None = Ok durability.Together
durability_by false (Some n) = Ok (durability.Deferred n)
durability_by false None = Ok durability.Usual

abbrev pub durability_at : List Row → Result Durability Refusal
durability_at rows = durability_by (is_set (codes "together") rows) (option_number (codes "deferred") rows)
