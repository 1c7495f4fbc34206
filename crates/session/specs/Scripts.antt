-- What a script's lines are, and which of them is no command.
use Rattle.std.specs.Prelude.{◌≡◌, ◌≢◌, ℕ, ◌+◌, ◌<◌, ◌==◌, Bool, true, false, not, Option, Some, None, List, [], ◌∷◌, ◌++◌, All, codes, length, map, filter, slice_index_or, take}
use Rattle.std.specs.Fmt.{decimal}
use Rattle.std.specs.List.{slice_split}
use Rattle.model.specs.declared.command.Command.{Command}
use Rattle.script.specs.Lines.{command_line, IsCommandInForm}
use Rattle.session.specs.declared.ending.Fault.{Fault}
use Rattle.session.specs.declared.ending.Fault.TheVariants.{NoMemory, Line}

-- the parts of a script between its line ends
abbrev pub lines_of : List ℕ → List (List ℕ)
lines_of script = slice_split (λ b. b == 10) script

-- an empty line, or one that begins with '#'
abbrev pub is_skipped : List ℕ → Bool
is_skipped [] = true
is_skipped (b ∷ bs) = b == 35

-- those of these lines that are to be commands
abbrev pub lines_kept : List (List ℕ) → List (List ℕ)
lines_kept lines = filter (λ line. not (is_skipped line)) lines

-- a line is to be a command, and is none
pub record IsBadLine (line : List ℕ) : Type 0 where
  pub kept : is_skipped line ≡ false
  pub none : (c : Command) → IsCommandInForm c → line ≢ command_line c

-- line i of these is bad
abbrev pub IsBadAt : List (List ℕ) → ℕ → Type 0
IsBadAt lines i = (i < length lines) × IsBadLine (slice_index_or lines i [])

-- some line of a script is bad
abbrev pub HasBadLine : List ℕ → Type 0
HasBadLine script = (i : ℕ) × IsBadAt (lines_of script) i

-- a line is this command, or is skipped
abbrev pub IsLineOf : List ℕ → Option Command → Type 0
IsLineOf line None = is_skipped line ≡ true
IsLineOf line (Some c) = (is_skipped line ≡ false) × IsCommandInForm c × (line ≡ command_line c)

-- these are the commands of some lines, but for those that are skipped
pub record AreCommandsOf (lines : List (List ℕ)) (commands : List Command) : Type 0 where
  pub bounded : All IsCommandInForm commands
  pub spelled : map command_line commands ≡ lines_kept lines

-- these are the commands of a script
abbrev pub IsScriptOf : List ℕ → List Command → Type 0
IsScriptOf script commands = AreCommandsOf (lines_of script) commands

-- line i of these, counted from 0, is the first bad one: those before it are commands
pub record IsFirstBadLine (lines : List (List ℕ)) (i : ℕ) : Type 0 where
  pub within : i < length lines
  pub bad : IsBadLine (slice_index_or lines i [])
  pub before : (commands : List Command) × AreCommandsOf (take i lines) commands

-- this is why a script isn't read: its first bad line, counted from 1, or want of memory
abbrev pub IsScriptFault : List ℕ → Fault → Type 0
IsScriptFault script NoMemory = Unit {0}
IsScriptFault script (Line n) = (i : ℕ) × (n ≡ i + 1) × IsFirstBadLine (lines_of script) i
IsScriptFault script fault = ⊥

-- what names a bad line, counted from 1
abbrev pub line_fault : ℕ → List ℕ
line_fault n = codes "wafl: line " ++ decimal n ++ 10 ∷ []
