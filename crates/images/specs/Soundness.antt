-- The grammars that a tree keeps: its inodes, indirect blocks, maps and the bytes past the ends of
-- its files.
use Rattle.std.specs.Prelude.{ℕ, zero, suc, ◌≡◌, ◌≢◌, ◌⊎◌, ◌↔◌, ◌-◌, ◌*◌, ◌<◌, ◌≤◌, List, length, drop}
use Rattle.layout.specs.Bytes.{zeros}
use Rattle.layout.specs.FileBytes.{byte_in, EndsAt}
use Rattle.layout.specs.Inode.{IsInode, inode_bytes}
unfoldable pub use Rattle.layout.specs.Inode.{nodes_of_size}
use Rattle.layout.specs.Limits.{Sizes}
use Rattle.layout.specs.Maps.{IsTaken, IsIndirectBlock}
use Rattle.layout.specs.Trees.{fan_out, level_of}
use Rattle.layout.specs.Version.{greatest_under}
use Rattle.layout.specs.declared.TheConstants.{BLOCK_BYTES, INODE_BYTES, INODES_PER_BLOCK}
use Rattle.layout.specs.declared.kind.Kind.{Kind}
use Rattle.layout.specs.declared.kind.Kind.TheVariants as kinds
use Rattle.model.specs.declared.limits.TheConstants.{FIRST_NUMBER}
use Rattle.layout.specs.declared.pointer.Pointer.TheVariants.{Hole, Block}
use Rattle.images.specs.Nodes.{Held, file_block}
use Rattle.images.specs.Roots.{HeldTree, inode_bytes_at}
use Rattle.images.specs.BlockMap.{NamesOnce}
use Rattle.images.specs.Contents.{content_of, content_bytes}

-- how much is known of the bytes in files: all of them, or how many there are
pub data Detail : Type 0 where
  by_bytes : Detail
  by_sizes : Detail

-- each block of a file's bytes that is stored can be read
abbrev pub IsReadable : Held → Type 0
IsReadable h = (i b : ℕ) → h.place 0 i ≡ Block b → length (h.bytes 0 i) ≡ BLOCK_BYTES

-- the bytes of a file can be read, and zeros stand past its end
pub record HasBytes (h : Held) : Type 0 where
  pub readable : IsReadable h
  pub ends : EndsAt h.inode.size (byte_in (file_block h))

-- where the sizes alone are known, nothing is asked of the bytes
abbrev pub KnowsBytes : Detail → Held → Type 0
KnowsBytes by_bytes h = HasBytes h
KnowsBytes by_sizes h = Unit {0}

-- a file in its grammar, in an image of these sizes: its inode, and each indirect block that is
-- stored; and its bytes
pub record IsHeldFile (detail : Detail) (s : Sizes) (h : Held) : Type 0 where
  pub inode : IsInode s h.inode
  pub indirect : (m i b : ℕ) → h.place (suc m) i ≡ Block b
      → IsIndirectBlock h.inode.layout s.blocks
      (nodes_of_size h.inode.layout h.inode.size m - fan_out h.inode.layout * i) (h.bytes (suc m) i)
  pub bytes : KnowsBytes detail h

-- the same with its bytes, and without them
abbrev pub IsSoundFile : Sizes → Held → Type 0
IsSoundFile = IsHeldFile by_bytes

abbrev pub IsFileGrammar : Sizes → Held → Type 0
IsFileGrammar = IsHeldFile by_sizes

-- kinds of ordinary numbers, and of the root directory's
abbrev pub IsOrdinary : Kind → Type 0
IsOrdinary kinds.Free = Unit {0}
IsOrdinary kinds.File = Unit {0}
IsOrdinary kinds.Directory = Unit {0}
IsOrdinary kinds.Link = Unit {0}
IsOrdinary kinds.InodeFile = ⊥
IsOrdinary kinds.InodeMap = ⊥
IsOrdinary kinds.BlockMap = ⊥

-- the kinds that a number may have, where 0 stands for the inode file
abbrev pub FitsNumber : ℕ → Kind → Type 0
FitsNumber zero kind = kind ≡ kinds.InodeFile
FitsNumber (suc zero) kind = kind ≡ kinds.InodeMap
FitsNumber (suc (suc zero)) kind = kind ≡ kinds.BlockMap
FitsNumber (suc (suc (suc n))) kind = IsOrdinary kind

-- the file has no hole: of a map all blocks are stored
abbrev pub HasNoHole : Held → Type 0
HasNoHole h =
    (i : ℕ) → 1 ≤ level_of h.inode.layout h.inode.size → i < nodes_of_size h.inode.layout h.inode.size 0
    → h.place 0 i ≢ Hole

-- The blocks of the inode file spell the inodes of a tree, and zeros elsewhere: for number 0, past
-- the last number, and behind the last inode of each block.
pub record SpellsInodes (inodes : ℕ) (block : ℕ → List ℕ) (t : HeldTree) : Type 0 where
  pub each : (n : ℕ) → 1 ≤ n → n < inodes → inode_bytes_at block n ≡ inode_bytes (t n).inode
  pub first : inode_bytes_at block 0 ≡ zeros INODE_BYTES
  pub past : (n : ℕ) → inodes ≤ n → inode_bytes_at block n ≡ zeros INODE_BYTES
  pub behind : (i : ℕ) → drop (INODE_BYTES * INODES_PER_BLOCK) (block i)
      ≡ zeros (BLOCK_BYTES - INODE_BYTES * INODES_PER_BLOCK)

-- the inode map's file says which numbers are in use: the first four, and those of the inodes that
-- aren't free
abbrev pub MapsNumbers : HeldTree → Type 0
MapsNumbers t =
    (n : ℕ) → IsTaken (content_bytes (content_of (t 1))) n
    ↔ ((n < FIRST_NUMBER) ⊎ ((t n).inode.kind ≢ kinds.Free))

-- a tree in its grammar, in an image of these sizes
pub record IsSoundTree (s : Sizes) (t : HeldTree) : Type 0 where
  pub files : (n : ℕ) → IsSoundFile s (t n)
  pub kinds : (n : ℕ) → FitsNumber n (t n).inode.kind
  pub inodes : SpellsInodes s.inodes (file_block (t 0)) t
  pub numbers : MapsNumbers t
  pub inode_map : HasNoHole (t 1)
  pub block_map : HasNoHole (t 2)
  pub once : NamesOnce t

-- the files of a tree are no larger than a version allows
abbrev pub IsWithin : ℕ → HeldTree → Type 0
IsWithin version t = (n : ℕ) → (t n).inode.size ≤ greatest_under version
