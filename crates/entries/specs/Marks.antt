-- Where the name of an entry has its marks, and what a block's bytes tell that are known.
use Rattle.std.specs.Prelude.{ℕ, zero, ◌≡◌, ◌≤◌, ◌+◌, ◌*◌, ◌/◌, ◌%◌, ◌⊎◌, List, [], ◌∷◌, Some, length, slice_index}
use Rattle.layout.specs.Directory.{Named, HoldsEntries}
use Rattle.layout.specs.DirectoryNames.{number_of}
use Rattle.model.specs.Paths.{Name}
use Rattle.entries.specs.Entries.{used_by}
use Rattle.entries.specs.declared.TheConstants.{HASHES, MARKS, PRINTS, SHARED}

-- the hash of a name
abbrev pub hash_of : Name → ℕ
hash_of [] = zero
hash_of (byte ∷ name) = (1021 * hash_of name + byte) % HASHES

-- what its marks are, where they are its own
abbrev pub print_of : Name → ℕ
print_of name = hash_of name % PRINTS + 1

-- a mark may be that of a name with this print
abbrev pub MayBe : ℕ → ℕ → Type 0
MayBe mark print = (mark ≡ print) ⊎ (mark ≡ SHARED)

-- the mark at a place may be
abbrev pub IsMarkedAt : List ℕ → ℕ → ℕ → Type 0
IsMarkedAt marks i print = MayBe (slice_index marks i) print

-- a name has both of its marks
abbrev pub HasMarks : List ℕ → Name → Type 0
HasMarks marks name = IsMarkedAt marks (hash_of name % MARKS) (print_of name) × IsMarkedAt marks (hash_of name / MARKS) (print_of name)

-- each name of these entries has its marks
abbrev pub AreMarked : List ℕ → List Named → Type 0
AreMarked marks entries = (name : Name) (n : ℕ) → number_of name entries ≡ Some n → HasMarks marks name

-- no mark is taken away
abbrev pub KeepsMarks : List ℕ → List ℕ → Type 0
KeepsMarks old new = (i print : ℕ) → 1 ≤ print → IsMarkedAt old i print → IsMarkedAt new i print

-- a block in its grammar
abbrev pub IsBlock : ℕ → List ℕ → Type 0
IsBlock inodes bytes = (entries : List Named) × HoldsEntries inodes bytes entries

-- what these bytes tell
pub record IsTally (inodes : ℕ) (bytes marks : List ℕ) (count sum : ℕ) : Type 0 where
  pub names : (es : List Named) → HoldsEntries inodes bytes es → count ≡ length es
  pub used : (es : List Named) → HoldsEntries inodes bytes es → sum ≡ used_by es
  pub marked : (es : List Named) → HoldsEntries inodes bytes es → AreMarked marks es
