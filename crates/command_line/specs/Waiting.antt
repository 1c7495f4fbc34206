-- How long is waited for an image that another program has in use, as the program's words say it.
use Rattle.std.specs.Prelude.{◌||◌, ◌&&◌, Bool, false, not, List, [], ◌∷◌, drop, nat_eq}
use Rattle.std.specs.Prelude.{Option, Some, None, Result, Ok, if◌then◌else◌, codes}
use Rattle.std.specs.List.{starts_with}
use Rattle.std.specs.Str.{bytes_eq}
use Rattle.clap.specs.Words.{Text}
use Rattle.command_line.specs.Durabilities.{written_out}
use Rattle.command_line.specs.Values.{Refusal, given, needed, spelled_number}
use Rattle.command_line.specs.declared.waiting.Stand.{Stand}
use Rattle.command_line.specs.declared.waiting.Stand.TheVariants as stand
use Rattle.command_line.specs.declared.waiting.Wait.{Wait}
use Rattle.command_line.specs.declared.waiting.Wait.TheVariants as wait

-- a word is `--wait`, or `--wait=` and more
abbrev pub is_wait : Text → Bool
is_wait word = bytes_eq word (codes "--wait") || starts_with nat_eq word (codes "--wait=")

-- a word begins with `-`, and is more than that
abbrev pub is_option : Text → Bool
is_option word = not (bytes_eq word (codes "-")) && starts_with nat_eq word (codes "-")

-- the word says how long is waited: neither the program's name does so, nor what stands behind `--`
-- or in a command of `do`
abbrev pub says_wait : Stand → Text → Bool
says_wait stand.Start word = false
says_wait stand.Words word = false
says_wait _ word = is_wait word

-- a word as clap reads it: an option's default value is written out
abbrev pub as_read : Stand → Text → Text
as_read stand.Start word = word
as_read stand.Words word = word
as_read _ word = written_out word

-- what stands before the word behind one that is no option: the first such word behind the
-- program's name is the command's name, and behind that of `do` come DISK, NVRAM and its own
-- command's words
abbrev pub after_place : Stand → Text → Stand
after_place stand.Program word = if bytes_eq word (codes "do") then stand.Do else stand.Command
after_place stand.Do word = stand.Disk
after_place stand.Disk word = stand.Nvram
after_place stand.Nvram word = stand.Words
after_place s word = s

-- what stands before the word behind this one
abbrev pub stand_after : Stand → Text → Stand
stand_after stand.Start word = stand.Program
stand_after stand.Words word = stand.Words
stand_after s word = if bytes_eq word (codes "--") then stand.Words
    else (if is_option word then s else after_place s word)

-- the words that don't say how long is waited, as clap reads them
unfoldable pub others_in : Stand → List Text → List Text
others_in s [] = []
others_in s (word ∷ words) = if says_wait s word then others_in (stand_after s word) words
    else as_read s word ∷ others_in (stand_after s word) words

-- the last word that says it, or this one where none does
unfoldable pub wait_in : Option Text → Stand → List Text → Option Text
wait_in last s [] = last
wait_in last s (word ∷ words) =
    wait_in (if says_wait s word then Some word else last) (stand_after s word) words

abbrev pub others_of : List Text → List Text
others_of words = others_in stand.Start words

-- so many seconds
abbrev pub seconds_of : Text → Result Wait Refusal
seconds_of text = given (needed (spelled_number text)) (λ n. Ok (wait.Seconds n))

-- how long such a word says that is waited: `--wait=` and a number so many seconds, `--wait` as
-- long as it takes, and none not at all
abbrev pub wait_by : Option Text → Result Wait Refusal
wait_by None = Ok wait.No
wait_by (Some word) = if starts_with nat_eq word (codes "--wait=")
    then seconds_of (drop 7 word) else Ok wait.Forever

abbrev pub wait_of : List Text → Result Wait Refusal
wait_of words = wait_by (wait_in None stand.Start words)
