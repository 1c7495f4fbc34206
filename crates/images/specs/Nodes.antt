-- What hangs from an inode, read into a value: the place and the bytes of each of its nodes.
use Rattle.std.specs.Prelude.{ℕ, zero, suc, ◌≡◌, ◌-◌, List, [], ◌++◌, nat_lt, if◌then◌else◌}
use Rattle.layout.specs.Bytes.{zeros}
use Rattle.layout.specs.Places.{Blocks, pointed, place}
use Rattle.layout.specs.Trees.{level_of}
use Rattle.layout.specs.declared.TheConstants.{BLOCK_BYTES, INLINE_BYTES}
use Rattle.layout.specs.declared.inode.Body.{Body}
use Rattle.layout.specs.declared.inode.Body.TheVariants.{Inline, Pointers}
use Rattle.layout.specs.declared.inode.Inode.{Inode}
use Rattle.layout.specs.declared.pointer.Pointer.{Pointer}
use Rattle.layout.specs.declared.pointer.Pointer.TheVariants.{Hole, Block}

-- the pointers of an inode: none where it has the file's bytes itself
abbrev pub pointers_of : Body → List Pointer
pointers_of (Inline bytes) = []
pointers_of (Pointers pointers) = pointers

-- An inode and all that hangs from it, by height: node i at height 0 is block i of the file, and
-- node i at height m + 1 is the indirect block over nodes f * i and on at height m, where an
-- indirect block has f pointers. There are nodes below the file's level, and the inode has the
-- pointers to the highest. So a block's address is the same at each level.
pub record Held : Type 0 where
  pub inode : Inode
  pub place : ℕ → ℕ → Pointer
  pub bytes : ℕ → ℕ → List ℕ

abbrev pub place_at_height : Blocks → Inode → ℕ → ℕ → Pointer
place_at_height disk inode height i =
    if nat_lt height (level_of inode.layout inode.size)
    then place inode.layout disk (pointers_of inode.body) (level_of inode.layout inode.size - suc height) i
    else Hole

unfoldable pub held : Blocks → Inode → Held
held disk inode = record {
  inode = inode;
  place = place_at_height disk inode;
  bytes = λ height i. pointed disk (place_at_height disk inode height i);
}

-- a node stands in block b
pub record Names (h : Held) (b : ℕ) : Type 0 where
  pub height : ℕ
  pub index : ℕ
  pub is : h.place height index ≡ Block b

-- no block has two nodes
abbrev pub IsOnce : Held → Type 0
IsOnce h =
    (m i k j b : ℕ) → h.place m i ≡ Block b → h.place k j ≡ Block b → (m ≡ k) × (i ≡ j)

-- block i of a file with this body, where the disk has these bytes for it
abbrev pub body_block : Body → List ℕ → ℕ → List ℕ
body_block (Inline bytes) stored zero = bytes ++ zeros (BLOCK_BYTES - INLINE_BYTES)
body_block (Inline bytes) stored (suc i) = zeros BLOCK_BYTES
body_block (Pointers pointers) stored i = stored

-- block i of the file, whatever its level
abbrev pub file_block : Held → ℕ → List ℕ
file_block h i = body_block h.inode.body (h.bytes 0 i) i

-- two disks have the same in these blocks
abbrev pub Agrees : (ℕ → Type 0) → Blocks → Blocks → Type 0
Agrees S d e = (b : ℕ) → S b → e b ≡ d b
