-- The names of a directory in a row.
use Rattle.std.specs.Prelude.{ℕ, ◌≡◌, ◌||◌, ◌↔◌, List, Bool, Some, All, Contains, IsSome, bytes_eq, is_some, map}
use Rattle.std.specs.Ordering.{nat_cmp}
use Rattle.std.specs.Cmp.Lexicographic.{slice_cmp}
use Rattle.std.specs.List.{list_any}
use Rattle.std.specs.List.Sorted.{IsStrictlySortedBy}
use Rattle.std.specs.Global.{Vec}
use Rattle.layout.specs.Directory.{Named}
use Rattle.layout.specs.DirectoryNames.{NameMap, number_of}
use Rattle.model.specs.Paths.{Name}
use Rattle.dirs.specs.declared.directory.NumberedName.{NumberedName}
use Rattle.entries.specs.Entries.{IsObjectNumber}

-- whether a name is among these
abbrev pub lists_name : List Name → Name → Bool
lists_name listed name = list_any (λ other. bytes_eq name other) listed

-- all names of a directory, sorted by their bytes, each once
pub record IsListingOfNames (names : NameMap) (listed : List Name) : Type 0 where
  pub sorted : IsStrictlySortedBy (slice_cmp nat_cmp) listed
  pub whole : (name : Name) → Contains listed name ↔ IsSome (names name)

-- names without their numbers
abbrev pub listed_names : List NumberedName → List Name
listed_names listed = map (λ n. n.name.items) listed

-- they are sorted by their bytes, each once
abbrev pub AreInOrder : List NumberedName → Type 0
AreInOrder listed = IsStrictlySortedBy (slice_cmp nat_cmp) (listed_names listed)

-- all names of a directory, sorted by their bytes, each once, with the numbers that they stand for
pub record IsNumberedListing (names : NameMap) (listed : List NumberedName) : Type 0 where
  pub listing : IsListingOfNames names (listed_names listed)
  pub numbers : All (λ n. names n.name.items ≡ Some n.number) listed

-- ---- names on their way into a listing

-- a name that is collected, with its number
abbrev pub Collected : Type 0
Collected = Vec ℕ × ℕ

abbrev pub numbered_of : Collected → NumberedName
numbered_of c = record { name = c.0; number = c.1 }

abbrev pub collected_names : List Collected → List Name
collected_names collected = map (λ c. c.0.items) collected

-- each number is one of an object
abbrev pub HasObjectNumbers : ℕ → List Collected → Type 0
HasObjectNumbers inodes collected = All (λ c. IsObjectNumber inodes c.1) collected

-- The names of these entries are added to others. Where each entry tells what its name stands for,
-- and so did the others, each does.
pub record AddsNames (entries : List Named) (old new : List Collected) : Type 0 where
  pub names : (name : Name) → lists_name (collected_names new) name ≡ (lists_name (collected_names old) name || is_some (number_of name entries))
  pub numbers : (names : NameMap) → All (λ e. names e.name ≡ Some e.number) entries → All (λ c. names c.0.items ≡ Some c.1) old
      → All (λ c. names c.0.items ≡ Some c.1) new
