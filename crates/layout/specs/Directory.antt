-- Directories: blocks of entries.
use Rattle.std.specs.Prelude.{ℕ, ◌≡◌, ◌≤◌, ◌<◌, List, [], ◌∷◌, ◌++◌, length, Option, Some}
use Rattle.layout.specs.Bytes.{zeros}
use Rattle.layout.specs.Format.{Format, num, counted, ◌▸◌}
use Rattle.layout.specs.Reading.{◌>>=◌}
use Rattle.model.specs.Paths.{IsName}
use Rattle.layout.specs.declared.TheConstants.{BLOCK_BYTES}
use Rattle.model.specs.declared.limits.TheConstants.{FIRST_NUMBER}
use Rattle.layout.specs.declared.entry.Entry.{Entry}
use Rattle.layout.specs.declared.directory.NextEntry.{NextEntry}
use Rattle.layout.specs.declared.directory.NextEntry.TheVariants as next

-- an entry without where its name lies in memory
pub record Named : Type 0 where
  pub number : ℕ
  pub name : List ℕ

abbrev pub named_of : Entry → Named
named_of e = record { number = e.number; name = e.name.now }

-- the one spelling of an entry: the number, and the name behind its length
abbrev pub entry_fields : Format (ℕ × List ℕ)
entry_fields = num 4 ▸ counted 1

abbrev pub entry_bytes : Named → List ℕ
entry_bytes e = entry_fields.text (e.number, e.name)

-- the bytes begin with this entry
abbrev pub BeginsWith : List ℕ → Named → Type 0
BeginsWith bytes e = (rest : List ℕ) × (bytes ≡ entry_bytes e ++ rest)

-- an entry of an image of so many inodes: an ordinary number, and a name
pub record IsEntry (inodes : ℕ) (e : Named) : Type 0 where
  pub ordinary : FIRST_NUMBER ≤ e.number
  pub below : e.number < inodes
  pub name : IsName e.name

-- the bytes are these entries, one behind the other, and zeros behind the last
abbrev pub HoldsEntries : ℕ → List ℕ → List Named → Type 0
HoldsEntries inodes bytes [] = bytes ≡ zeros (length bytes)
HoldsEntries inodes bytes (e ∷ entries) =
    (rest : List ℕ) × IsEntry inodes e × (bytes ≡ entry_bytes e ++ rest) × HoldsEntries inodes rest entries

-- a block of a directory
pub record IsDirectoryBlock (inodes : ℕ) (bytes : List ℕ) (entries : List Named) : Type 0 where
  pub size : length bytes ≡ BLOCK_BYTES
  pub holds : HoldsEntries inodes bytes entries

-- what bytes of a directory's block begin with, at an entry's place
abbrev pub NextEntryIs : ℕ → List ℕ → NextEntry → Type 0
NextEntryIs inodes bytes next.End = bytes ≡ zeros (length bytes)
NextEntryIs inodes bytes (next.Entry e rest) = IsEntry inodes (named_of e) × (bytes ≡ entry_bytes (named_of e) ++ rest.now)
NextEntryIs inodes bytes next.Malformed = (entries : List Named) → HoldsEntries inodes bytes entries → ⊥

-- the number and the name that the bytes begin with, before their limits are looked at
unfoldable pub entry_in : List ℕ → Option Named
entry_in bytes = entry_fields.at bytes >>= λ x. Some (record { number = x.0.0; name = x.0.1 })
