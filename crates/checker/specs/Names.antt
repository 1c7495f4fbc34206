-- The directories of a tree.
use Rattle.std.specs.Prelude.{ℕ, ◌≡◌, ◌<◌, ◌≤◌, List, length, slice_get, Some}
use Rattle.layout.specs.Limits.{Sizes}
use Rattle.layout.specs.declared.kind.Kind.TheVariants.{Directory, File}
use Rattle.model.specs.Paths.{IsName, Name, Path}
use Rattle.model.specs.Volumes.{Entries, HasNames, number_at}
use Rattle.model.specs.declared.limits.TheConstants.{FIRST_NUMBER, ROOT_NUMBER}
use Rattle.images.specs.Contents.{IsDirectoryOf, content_of}
use Rattle.images.specs.Roots.{HeldTree}
use Rattle.images.specs.Soundness.{IsReadable}
use Rattle.checker.specs.Findings.{IsNamedKind}
use Rattle.checker.specs.declared.names.NumberRow.{NumberRow}

-- a table has what a tree has of each number
pub record IsTable (s : Sizes) (t : HeldTree) (table : List NumberRow) : Type 0 where
  pub length_is : length table ≡ s.inodes
  pub each : (n : ℕ) (row : NumberRow) → 1 ≤ n → slice_get table n ≡ Some row
      → (row.kind ≡ (t n).inode.kind) × (row.links ≡ (t n).inode.links)

-- no number has a name yet
abbrev pub IsUnnamed : List NumberRow → Type 0
IsUnnamed table = (n : ℕ) (row : NumberRow) → slice_get table n ≡ Some row → row.names ≡ 0

-- a name that leads to a number is a name, and the number one of these inodes that may have a name
pub record IsUsed (s : Sizes) (t : HeldTree) (x : Name) (n : ℕ) : Type 0 where
  pub name : IsName x
  pub ordinary : FIRST_NUMBER ≤ n
  pub below : n < s.inodes
  pub kind : IsNamedKind (t n).inode.kind

-- a number is one of the first so many of a list
abbrev pub IsFirst : List ℕ → ℕ → ℕ → Type 0
IsFirst found count n = (i : ℕ) × (i < count) × (slice_get found i ≡ Some n)

-- These names are counted, all of them of the first so many directories that were found; and these
-- are all that the names lead to.
pub record IsCounted (s : Sizes) (t : HeldTree) (e : Entries) (count : ℕ) (found : List ℕ) (table : List NumberRow) : Type 0 where
  pub rows : IsTable s t table
  pub from : (d n : ℕ) (x : Name) → e d x ≡ Some n → IsFirst found count d
  pub used : (d n : ℕ) (x : Name) → e d x ≡ Some n → IsUsed s t x n
  pub counts : (n : ℕ) (row : NumberRow) → slice_get table n ≡ Some row → HasNames e n row.names
  -- only a file may have several names
  pub once : (n : ℕ) (row : NumberRow) → slice_get table n ≡ Some row → (row.kind ≡ File → ⊥) → row.names ≤ 1
  pub finds : (d n : ℕ) (x : Name) → e d x ≡ Some n → (t n).inode.kind ≡ Directory → IsFirst found (length found) n
  pub root : IsFirst found (length found) ROOT_NUMBER
  pub reached : (n : ℕ) → IsFirst found (length found) n
      → ((t n).inode.kind ≡ Directory) × ((p : Path) × (number_at e p ≡ Some n))

-- the first so many directories that were found can be read, and have these names, each of them all
-- that its blocks give it
abbrev pub AreDirectories : Sizes → HeldTree → Entries → ℕ → List ℕ → Type 0
AreDirectories s t e count found = (d : ℕ) → IsFirst found count d → IsReadable (t d) × IsDirectoryOf s.inodes (content_of (t d)) (e d)

-- What is known of a tree when the first so many directories that were found were looked into:
-- these are their names.
pub record IsWalked (s : Sizes) (t : HeldTree) (e : Entries) (count : ℕ) (found : List ℕ) (table : List NumberRow) : Type 0 where
  pub counted : IsCounted s t e count found table
  pub names : AreDirectories s t e count found

-- all directories that are reached were looked into
abbrev pub IsAllWalked : Sizes → HeldTree → Entries → List ℕ → List NumberRow → Type 0
IsAllWalked s t e found table = IsWalked s t e (length found) found table

-- these numbers stand for inodes of an image of so many
abbrev pub AreWithin : ℕ → List ℕ → Type 0
AreWithin inodes numbers = (i n : ℕ) → slice_get numbers i ≡ Some n → (1 ≤ n) × (n < inodes)
