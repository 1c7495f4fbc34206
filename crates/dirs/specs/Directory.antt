-- A directory's names, and how many they are.
use Rattle.std.specs.Prelude.{ℕ, zero, suc, ◌<◌, ◌==◌, List, [], ◌++◌, Option, IsSome, bytes_eq, if◌then◌else◌}
use Rattle.layout.specs.Directory.{Named, HoldsEntries}
use Rattle.layout.specs.DirectoryNames.{NameMap}
use Rattle.model.specs.Counting.{Counts}
use Rattle.model.specs.Paths.{Name}

-- these names, but for one that is changed or taken away
abbrev pub with_name : Name → Option ℕ → NameMap → NameMap
with_name name to names other = if bytes_eq other name then to else names other

-- f, but for one place
abbrev pub with_at : {X : Type 0} → ℕ → X → (ℕ → X) → ℕ → X
with_at i x f j = if j == i then x else f j

-- the entries of the first so many lists
abbrev pub first_entries : (ℕ → List Named) → ℕ → List Named
first_entries entries zero = []
first_entries entries (suc n) = entries n ++ first_entries entries n

-- each of the first so many blocks holds entries
abbrev pub AreDirectoryBlocks : ℕ → ℕ → (ℕ → List ℕ) → Type 0
AreDirectoryBlocks inodes count block = (i : ℕ) → i < count → (entries : List Named) × HoldsEntries inodes (block i) entries

-- a directory has so many names
abbrev pub HasCount : NameMap → ℕ → Type 0
HasCount names count = Counts (λ name. IsSome (names name)) count
