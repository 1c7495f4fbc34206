-- The names of a directory, which its blocks of entries give it.
use Rattle.std.specs.Prelude.{ℕ, ◌≡◌, ◌<◌, ◌≤◌, List, [], ◌∷◌, Option, Some, None, bytes_eq, if◌then◌else◌}
use Rattle.layout.specs.Directory.{Named, HoldsEntries}
use Rattle.model.specs.Paths.{Name}

-- which number each name of a directory has
abbrev pub NameMap : Type 0
NameMap = Name → Option ℕ

-- the number that a name stands for among these entries
abbrev pub number_of : Name → List Named → Option ℕ
number_of name [] = None
number_of name (e ∷ entries) = if bytes_eq name e.name then Some e.number else number_of name entries

-- no name stands twice
abbrev pub HasEachOnce : List Named → Type 0
HasEachOnce [] = Unit {0}
HasEachOnce (e ∷ entries) = (number_of e.name entries ≡ None) × HasEachOnce entries

-- the names are those of the entries, list by list, and none stands twice
pub record AreNames (entries : ℕ → List Named) (names : NameMap) : Type 0 where
  pub each : (i : ℕ) → HasEachOnce (entries i)
  pub once : (i j : ℕ) (name : Name) (m n : ℕ) → number_of name (entries i) ≡ Some m → number_of name (entries j) ≡ Some n → i ≡ j
  pub found : (i : ℕ) (name : Name) (n : ℕ) → number_of name (entries i) ≡ Some n → names name ≡ Some n
  pub only : (name : Name) → ((i : ℕ) → number_of name (entries i) ≡ None) → names name ≡ None

-- each of the first so many blocks holds its entries
abbrev pub AllHold : ℕ → ℕ → (ℕ → List ℕ) → (ℕ → List Named) → Type 0
AllHold inodes count block entries = (i : ℕ) → i < count → HoldsEntries inodes (block i) (entries i)

-- so many blocks hold the entries of these names
pub record HoldNames (inodes count : ℕ) (block : ℕ → List ℕ) (names : NameMap) : Type 0 where
  pub entries : ℕ → List Named
  pub holds : AllHold inodes count block entries
  pub past : (i : ℕ) → count ≤ i → entries i ≡ []
  pub are : AreNames entries names
