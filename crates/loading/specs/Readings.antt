-- What is read of the two maps, block by block of their files.
use Rattle.std.specs.Prelude.{ℕ, ◌≡◌, ◌≢◌, ◌/◌, ◌<◌, List, length, slice_index_or}
use Rattle.layout.specs.FileBytes.{byte_in, first_bytes, EndsAt}
use Rattle.layout.specs.Places.{Blocks, place, pointed}
use Rattle.layout.specs.declared.TheConstants.{BLOCK_BYTES}
use Rattle.layout.specs.declared.inode.Body.{Body}
use Rattle.layout.specs.declared.inode.Body.TheVariants.{Inline, Pointers}
use Rattle.layout.specs.declared.inode.Inode.{Inode}
use Rattle.layout.specs.declared.pointer.Pointer.TheVariants.{Hole}
use Rattle.layout.specs.declared.trees.Layout.{Layout}
use Rattle.buffers.specs.Disks.{IsWhole}
use Rattle.blocktree.specs.Places.{block_count, depth_of, IsPath}
use Rattle.blocktree.specs.declared.tree.BlockTree.{BlockTree}
use Rattle.inode.specs.Bodies.{inode_block}
use Rattle.blockmap.specs.Parts.{Part, Spells}
use Rattle.blockmap.specs.Maps.{no_part, IsTouched}

-- on a disk of so many blocks, all that stands over block i of a file of this layout, body and size
-- is in the grammar
abbrev pub IsBodyPath : Layout → ℕ → Blocks → Body → ℕ → ℕ → Type 0
IsBodyPath layout blocks disk (Inline bytes) size i = Unit {0}
IsBodyPath layout blocks disk (Pointers pointers) size i =
    i < block_count size
    → IsPath layout blocks disk pointers (depth_of layout size) (block_count size) i

-- all blocks of a file of this layout, body and size are stored
abbrev pub IsStored : Layout → Blocks → Body → ℕ → Type 0
IsStored layout disk (Inline bytes) size = Unit {0}
IsStored layout disk (Pointers pointers) size =
    (i : ℕ) → i < block_count size → place layout disk pointers (depth_of layout size) i ≢ Hole

-- block i of a file of this layout, body and size can be read
abbrev pub IsWholeAt : Layout → Blocks → Body → ℕ → ℕ → Type 0
IsWholeAt layout disk (Inline bytes) size i = Unit {0}
IsWholeAt layout disk (Pointers pointers) size i =
    i < block_count size
    → IsWhole (pointed disk (place layout disk pointers (depth_of layout size) i))

-- each can
abbrev pub IsWholeBody : Layout → Blocks → Body → ℕ → Type 0
IsWholeBody layout disk body size = (i : ℕ) → IsWholeAt layout disk body size i

-- all settled blocks of a tree are stored
abbrev pub HasAllPlaces : Blocks → BlockTree → Type 0
HasAllPlaces disk t = (i : ℕ) → i < t.count → place t.layout disk t.pointers t.depth i ≢ Hole

-- the byte at a position of the file of a settled inode
abbrev pub inode_byte : Blocks → Inode → ℕ → ℕ
inode_byte disk inode = byte_in (inode_block disk inode)

-- the bytes of the file of a settled inode
abbrev pub inode_bytes_of : Blocks → Inode → List ℕ
inode_bytes_of disk inode = first_bytes (inode_byte disk inode) inode.size

-- the file of a map: all its blocks are stored, and zeros stand past its end, in a block that can
-- be read
pub record IsMapFile (disk : Blocks) (inode : Inode) : Type 0 where
  pub stored : IsStored inode.layout disk inode.body inode.size
  pub last : IsWholeAt inode.layout disk inode.body inode.size (inode.size / BLOCK_BYTES)
  pub ends : EndsAt inode.size (inode_byte disk inode)

-- of a map no entry is changed
pub record AreUnchanged (parts : List Part) : Type 0 where
  pub same : (j : ℕ) → (slice_index_or parts j no_part).entries ≡ (slice_index_or parts j no_part).settled
  pub untouched : (j : ℕ) → IsTouched parts j → ⊥

-- a block map of so many blocks was read: these are its settled entries
pub record AreParts (block : ℕ → List ℕ) (count : ℕ) (parts : List Part) : Type 0 where
  pub count_is : length parts ≡ count
  pub settled : (j : ℕ) → j < count → Spells (block j) (slice_index_or parts j no_part).settled
