-- What clap found for an argument: a text, a number, or that a flag is there.
use Rattle.std.specs.Prelude.{ℕ, ◌*◌, ◌/◌, ◌%◌, ◌-◌, ◌==◌, ◌&&◌, ◌||◌, Bool, false, nat_le}
use Rattle.std.specs.Prelude.{List, length, take, slice_index, Option, Some, None, Result, Ok, Err, if◌then◌else◌, codes, option_and_then}
use Rattle.std.specs.Option.{option_map_or}
use Rattle.std.specs.Str.{bytes_eq}
use Rattle.std.specs.Str.Parse.{digits_value, without_leading_plus}
use Rattle.clap.specs.ValueTests.{is_unsigned_in}
use Rattle.clap.specs.Words.{Row, Text, first_of, found_of, one_of, rows_of}
use Rattle.clap.specs.declared.parser.matches.ArgMatches.{ArgMatches}

-- what was found for each argument of a command
abbrev pub rows_in : ArgMatches → List Row
rows_in m = rows_of (found_of m)

-- why words name no line: they aren't understood, or a number of `make` is one that no image has
pub data Refusal : Type 0 where
  not_understood : Refusal
  out_of_range : Refusal

-- where there is a value, what is made of it
abbrev pub given : {A B : Type 0} → Result A Refusal → (A → Result B Refusal) → Result B Refusal
given (Ok x) f = f x
given (Err e) f = Err e

-- a value without which words aren't understood
abbrev pub needed : {A : Type 0} → Option A → Result A Refusal
needed None = Err not_understood
needed (Some x) = Ok x

-- the text of an argument
abbrev pub text_at : Text → List Row → Result Text Refusal
text_at id rows = needed (first_of id rows)

-- the number of 32 bits that a text spells: decimal digits, behind a plus or not
abbrev pub spelled_number : Text → Option ℕ
spelled_number text = if is_unsigned_in 0 4294967295 text
    then Some (digits_value 10 (without_leading_plus text)) else None

-- the number of an option
abbrev pub option_number : Text → List Row → Option ℕ
option_number id rows = option_and_then spelled_number (one_of id rows)

-- the flag is there
abbrev pub is_set : Text → List Row → Bool
is_set id rows = option_map_or (λ text. bytes_eq text (codes "true")) (one_of id rows) false

-- ---- the numbers of `make`

-- what a last character multiplies by: k (107) or K (75), M (77), G (71)
abbrev pub unit_of : ℕ → ℕ
unit_of c = if c == 107 || c == 75 then 1024
    else (if c == 77 then 1048576 else (if c == 71 then 1073741824 else 1))

abbrev pub unit_in : Text → ℕ
unit_in text = unit_of (slice_index text (length text - 1))

-- the text without its suffix
abbrev pub digits_in : Text → Text
digits_in text = if unit_in text == 1 then text else take (length text - 1) text

-- so many times the size, if it is whole
abbrev pub whole_count : ℕ → ℕ → Result ℕ Refusal
whole_count size total = if total % size == 0 then Ok (total / size) else Err out_of_range

-- how many a text names of what has this size in bytes: without a suffix its number, and with one
-- so many bytes
abbrev pub amount_of : ℕ → Text → Result ℕ Refusal
amount_of size text = given (needed (spelled_number (digits_in text)))
    (λ n. whole_count (if unit_in text == 1 then 1 else size) (n * unit_in text))

abbrev pub within : ℕ → ℕ → ℕ → Result ℕ Refusal
within least most n = if nat_le least n && nat_le n most then Ok n else Err out_of_range

-- the number of an option, from `least` to `most`
abbrev pub amount_at : Text → ℕ → ℕ → ℕ → List Row → Result ℕ Refusal
amount_at id size least most rows =
    given (text_at id rows) (λ text. given (amount_of size text) (within least most))
