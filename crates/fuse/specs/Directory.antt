-- Entries of a directory, as a listing has them.
use Rattle.std.specs.Prelude.{ℕ, ◌-◌, ◌%◌, List, ◌++◌, length}
use Rattle.layout.specs.Bytes.{little, zeros}
use Rattle.fuse.specs.Attributes.{entry_text}
use Rattle.fuse.specs.declared.attributes.Entry.{Entry}
use Rattle.fuse.specs.declared.directory.Listed.{Listed}
use Rattle.fuse.specs.declared.directory.ListedKind.{ListedKind}
use Rattle.fuse.specs.declared.directory.ListedKind.TheVariants.{Unknown, Fifo, CharacterDevice, Directory, BlockDevice, File, SymbolicLink, Socket}

-- an entry, without where its name lies in memory
pub record ListedValue : Type 0 where
  pub inode : ℕ
  pub offset : ℕ
  pub kind : ListedKind
  pub name : List ℕ

abbrev pub listed_of : Listed → ListedValue
listed_of l = record { inode = l.inode; offset = l.offset; kind = l.kind; name = l.name.now }

abbrev pub code_of : ListedKind → ℕ
code_of Unknown = 0
code_of Fifo = 1
code_of CharacterDevice = 2
code_of Directory = 4
code_of BlockDevice = 6
code_of File = 8
code_of SymbolicLink = 10
code_of Socket = 12

-- how many zeros stand behind a name of so many bytes: up to the next eight
unfoldable pub padding : ℕ → ℕ
padding count = (8 - count % 8) % 8

-- what stands in front of the name
unfoldable pub listed_head_text : ListedValue → List ℕ
listed_head_text l =
    little 8 l.inode ++ little 8 l.offset ++ little 4 (length l.name) ++ little 4 (code_of l.kind)

unfoldable pub listed_text : ListedValue → List ℕ
listed_text l = listed_head_text l ++ l.name ++ zeros (padding (length l.name))

-- with what the name leads to in front of it
unfoldable pub listed_plus_text : Entry → ListedValue → List ℕ
listed_plus_text entry l = entry_text entry ++ listed_text l
