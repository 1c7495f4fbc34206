-- Directories as they are looked into, entry by entry.
use Rattle.std.specs.Prelude.{ℕ, ◌≡◌, ◌≢◌, ◌+◌, ◌≤◌, ◌==◌, if◌then◌else◌, List, [], length, slice_get, sum_by, Some, None}
use Rattle.layout.specs.Directory.{HoldsEntries, Named}
use Rattle.layout.specs.DirectoryNames.{AllHold, AreNames, HasEachOnce, number_of}
use Rattle.layout.specs.Limits.{Sizes}
use Rattle.layout.specs.Places.{Blocks}
use Rattle.model.specs.Paths.{Name}
use Rattle.model.specs.Volumes.{Entries, Volume, entries}
use Rattle.blocktree.specs.Trees.{IsSoundAt}
use Rattle.inode.specs.Files as files
use Rattle.inode.specs.declared.file.File.{File}
use Rattle.images.specs.Faults.{HoldsNames}
use Rattle.images.specs.Nodes.{Held, file_block}
use Rattle.images.specs.Roots.{HeldTree}
use Rattle.images.specs.Soundness.{IsReadable}
use Rattle.checker.specs.Names.{AreWithin, IsCounted, IsFirst, AreDirectories}
use Rattle.checker.specs.declared.names.NumberRow.{NumberRow}

-- how many numbers have no name yet
abbrev pub unnamed_rows : List NumberRow → ℕ
unnamed_rows table = sum_by (λ row. if row.names == 0 then 1 else 0) table

-- a table of as many numbers, and more that are found: each that is found has a name more
pub record GoesOn (table : List NumberRow) (found : List ℕ) (later : List NumberRow) (more : List ℕ) : Type 0 where
  pub length_is : length later ≡ length table
  pub keeps : (i n : ℕ) → slice_get found i ≡ Some n → slice_get more i ≡ Some n
  pub fewer : unnamed_rows later + length more ≤ unnamed_rows table + length found
  pub within : AreWithin (length table) found → AreWithin (length table) more

-- a file in memory has the bytes of a held one, and is in its grammar, where that can be read
pub record HasFile (blocks : ℕ) (disk : Blocks) (file : File) (h : Held) : Type 0 where
  pub size_is : file.size ≡ h.inode.size
  pub block_is : (i : ℕ) → files.file_block disk file i ≡ file_block h i
  pub sound : IsReadable h → (i : ℕ) → IsSoundAt blocks disk file.tree i

-- What is known on the way: these names are counted, no directory is found twice, and whatever
-- graph the tree holds has these names.
pub record IsOnWay (s : Sizes) (t : HeldTree) (e : Entries) (count : ℕ) (found : List ℕ) (table : List NumberRow) : Type 0 where
  pub counted : IsCounted s t e count found table
  pub distinct : (i j n : ℕ) → slice_get found i ≡ Some n → slice_get found j ≡ Some n → i ≡ j
  pub sound : (g : HoldsNames s.inodes t) (d n : ℕ) (x : Name) → e d x ≡ Some n → entries g.volume d x ≡ Some n

-- on the way between two directories: the first so many that were found have all their names
pub record LooksInto (s : Sizes) (t : HeldTree) (e : Entries) (count : ℕ) (found : List ℕ) (table : List NumberRow) : Type 0 where
  pub way : IsOnWay s t e count found table
  pub names : AreDirectories s t e count found

-- bytes of a directory whose entries a volume has, where none of them is counted yet
pub record IsAwaited (inodes : ℕ) (v : Volume) (d : ℕ) (e : Entries) (bytes : List ℕ) : Type 0 where
  pub awaited : List Named
  pub holds : HoldsEntries inodes bytes awaited
  pub once : HasEachOnce awaited
  pub leads : (x : Name) (n : ℕ) → number_of x awaited ≡ Some n → (entries v d x ≡ Some n) × (e d x ≡ None)

-- the names with these entries of a directory more
pub record AddsEntries (d : ℕ) (added : List Named) (e f : Entries) : Type 0 where
  pub once : HasEachOnce added
  pub new : (x : Name) (n : ℕ) → number_of x added ≡ Some n → (e d x ≡ None) × (f d x ≡ Some n)
  pub kept : (x : Name) → number_of x added ≡ None → f d x ≡ e d x
  pub others : (k : ℕ) → k ≢ d → f k ≡ e k

-- the entries of these bytes of a directory were counted
pub record HasCounted (s : Sizes) (t : HeldTree) (d : ℕ) (bytes : List ℕ) (e : Entries) (count : ℕ) (found : List ℕ) (table : List NumberRow) : Type 0 where
  pub added : List Named
  pub holds : HoldsEntries s.inodes bytes added
  pub names : Entries
  pub adds : AddsEntries d added e names
  pub way : IsOnWay s t names count found table

-- the names of the first so many blocks of a directory
pub record HasRows (inodes blocks : ℕ) (block : ℕ → List ℕ) (d : ℕ) (rows : ℕ → List Named) (e f : Entries) : Type 0 where
  pub holds : AllHold inodes blocks block rows
  pub past : (i : ℕ) → blocks ≤ i → rows i ≡ []
  pub are : AreNames rows (f d)
  pub others : (k : ℕ) → k ≢ d → f k ≡ e k

-- the first so many blocks of a directory were counted
pub record HasCountedRows (s : Sizes) (t : HeldTree) (d blocks : ℕ) (block : ℕ → List ℕ) (e : Entries) (count : ℕ) (found : List ℕ) (table : List NumberRow) : Type 0 where
  pub names : Entries
  pub rows : ℕ → List Named
  pub has : HasRows s.inodes blocks block d rows e names
  pub way : IsOnWay s t names count found table

-- a directory that was found, none of whose names is counted yet
pub record IsToCount (s : Sizes) (t : HeldTree) (d : ℕ) (e : Entries) (count : ℕ) (found : List ℕ) (table : List NumberRow) : Type 0 where
  pub way : IsOnWay s t e count found table
  pub among : IsFirst found count d
  pub none : (x : Name) → e d x ≡ None
