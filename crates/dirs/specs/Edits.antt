-- A directory as a prepared edit has it.
use Rattle.std.specs.Prelude.{ℕ, ◌≡◌, ◌⊎◌, ◌/◌, ◌<◌, ◌≤◌, List, Option, Some, None, unwrap_or}
use Rattle.std.specs.Ordering.{nat_cmp}
use Rattle.std.specs.BTreeMap as tree
use Rattle.layout.specs.Directory.{Named, HoldsEntries}
use Rattle.buffers.specs.Disks.{IsWhole}
use Rattle.blocktree.specs.Trees.{HasRoom, IsSoundAt}
use Rattle.inode.specs.declared.file.File.{File}
use Rattle.inode.specs.Files.{file_block}
use Rattle.layout.specs.DirectoryNames.{NameMap, HoldNames, number_of}
use Rattle.model.specs.Paths.{Name}
use Rattle.layout.specs.declared.TheConstants.{BLOCK_BYTES}
use Rattle.dirs.specs.Directory.{AreDirectoryBlocks}
use Rattle.dirs.specs.declared.TheConstants.{GROWN_BLOCKS}
use Rattle.dirs.specs.declared.edit.Edit.{Edit}
use Rattle.dirs.specs.declared.edit.Place.{Place}

-- block i of a directory's file with an edit of it
abbrev pub edited_block : (ℕ → List ℕ) → File → Edit → ℕ → List ℕ
edited_block disk f e i = unwrap_or (tree.get nat_cmp e.changed i) (file_block disk f i)

-- each block can be read
abbrev pub AreWhole : (ℕ → List ℕ) → Type 0
AreWhole block = (i : ℕ) → IsWhole (block i)

-- with an edit, a directory has these names
abbrev pub HasEditedNames : ℕ → (ℕ → List ℕ) → File → Edit → NameMap → Type 0
HasEditedNames inodes disk f e names = HoldNames inodes e.count (edited_block disk f e) names

-- a file is a directory with these names
abbrev pub IsDirectory : ℕ → (ℕ → List ℕ) → File → NameMap → Type 0
IsDirectory inodes disk f names = HoldNames inodes (f.size / 4096) (file_block disk f) names

-- The file has room for what an edit changes, and the directory gets no more blocks than it had, or
-- few.
pub record FitsIn (f : File) (e : Edit) : Type 0 where
  pub room : (i : ℕ) → tree.ContainsKey nat_cmp e.changed i → HasRoom f.tree i
  pub grown : (e.count ≤ f.size / BLOCK_BYTES) ⊎ (e.count ≤ GROWN_BLOCKS)

-- with an edit, each block of a directory holds entries
abbrev pub IsSoundEdit : ℕ → (ℕ → List ℕ) → File → Edit → Type 0
IsSoundEdit inodes disk f e = AreDirectoryBlocks inodes e.count (edited_block disk f e)

-- what leads to the blocks of a directory on a disk of so many blocks is in the grammar
abbrev pub IsReached : ℕ → (ℕ → List ℕ) → File → ℕ → Type 0
IsReached blocks disk f count = (i : ℕ) → i < count → IsSoundAt blocks disk f.tree i

-- where a name stands: in this block, for this number
abbrev pub IsNamePlace : (ℕ → List Named) → ℕ → Name → Option Place → Type 0
IsNamePlace entries count name (Some p) = (p.block < count) × (number_of name (entries p.block) ≡ Some p.number)
IsNamePlace entries count name None = (i : ℕ) → i < count → number_of name (entries i) ≡ None

-- a block in its grammar, where a name stands for this number, or for none
abbrev pub HasNumber : ℕ → List ℕ → Name → Option ℕ → Type 0
HasNumber inodes bytes name number =
    (entries : List Named) × HoldsEntries inodes bytes entries × (number_of name entries ≡ number)

-- the number that a name has in the first block where it stands: up to there, or else all, the
-- blocks are in their grammar
abbrev pub IsFirstFound : ℕ → (ℕ → List ℕ) → ℕ → Name → Option ℕ → Type 0
IsFirstFound inodes block count name (Some number) =
    (at : ℕ) × (at < count) × ((i : ℕ) → i < at → HasNumber inodes (block i) name None) × HasNumber inodes (block at) name (Some number)
IsFirstFound inodes block count name None = (i : ℕ) → i < count → HasNumber inodes (block i) name None
