-- What a look at a block of a directory tells.
use Rattle.std.specs.Prelude.{ℕ, ◌≡◌, ◌*◌, ◌≤◌, List, length}
use Rattle.layout.specs.Directory.{Named, HoldsEntries}
use Rattle.model.specs.Paths.{Name}
use Rattle.layout.specs.DirectoryNames.{number_of}
use Rattle.entries.specs.Entries.{used_by}
use Rattle.entries.specs.declared.look.Look.{Look}

-- it tells of the entries that the bytes hold
pub record TellsEntries (inodes : ℕ) (bytes : List ℕ) (name : Name) (l : Look) : Type 0 where
  pub entries : List Named
  pub holds : HoldsEntries inodes bytes entries
  pub number : (es : List Named) → HoldsEntries inodes bytes es → l.number ≡ number_of name es
  pub names : (es : List Named) → HoldsEntries inodes bytes es → l.names ≡ length es
  pub used : (es : List Named) → HoldsEntries inodes bytes es → l.used ≡ used_by es

-- a block has at most 4,096 entries, and an entry at most 260 bytes
pub record IsLikely (l : Look) : Type 0 where
  pub names : l.names ≤ 4096
  pub used : l.used ≤ 260 * l.names
