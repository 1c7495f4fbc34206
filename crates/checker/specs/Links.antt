-- The rows of a table, with the names of each number and the links that its inode has.
use Rattle.std.specs.Prelude.{ℕ, ◌≡◌, ◌≢◌, ◌≤◌, List, slice_get, Some}
use Rattle.layout.specs.declared.kind.Kind.TheVariants.{File}
use Rattle.model.specs.declared.limits.TheConstants.{FIRST_NUMBER}
use Rattle.checker.specs.Findings.{HasOneName}
use Rattle.checker.specs.declared.fault.DirectoryFault.TheVariants.{Unreached}
use Rattle.checker.specs.declared.fault.Fault.{Fault}
use Rattle.checker.specs.declared.fault.Fault.TheVariants as faults
use Rattle.checker.specs.declared.names.NumberRow.{NumberRow}

-- the row of an ordinary number
abbrev pub IsRow : List NumberRow → ℕ → NumberRow → Type 0
IsRow table n row = (FIRST_NUMBER ≤ n) × (slice_get table n ≡ Some row)

-- each directory but the root, and each link, has a name
abbrev pub AreReached : List NumberRow → Type 0
AreReached table = (n : ℕ) (row : NumberRow) → IsRow table n row → HasOneName row.kind → 1 ≤ row.names

-- one has none
abbrev pub IsUnreached : List NumberRow → Fault → Type 0
IsUnreached table fault =
    (n : ℕ) × (row : NumberRow) × IsRow table n row × HasOneName row.kind × (row.names ≡ 0)
    × (fault ≡ faults.Directory (Unreached n))

-- each file has as many names as links
abbrev pub AreLinked : List NumberRow → Type 0
AreLinked table = (n : ℕ) (row : NumberRow) → IsRow table n row → row.kind ≡ File → row.names ≡ row.links

-- one has another number
abbrev pub IsUnlinked : List NumberRow → Fault → Type 0
IsUnlinked table fault =
    (n : ℕ) × (row : NumberRow) × IsRow table n row × (row.kind ≡ File) × (row.names ≢ row.links)
    × (fault ≡ faults.Links n row.names row.links)
