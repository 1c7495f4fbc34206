-- The blocks of an inode file, as mount tests them.
use Rattle.std.specs.Prelude.{ℕ, ◌≡◌, ◌+◌, ◌-◌, ◌*◌, ◌<◌, ◌≤◌, List, drop}
use Rattle.std.specs.Int.{div_ceil}
use Rattle.layout.specs.Bytes.{zeros}
use Rattle.layout.specs.Inode.{IsInode, inode_bytes}
use Rattle.layout.specs.Limits.{Sizes}
use Rattle.layout.specs.Version.{greatest_under}
use Rattle.layout.specs.declared.TheConstants.{BLOCK_BYTES, INODE_BYTES, INODES_PER_BLOCK}
use Rattle.layout.specs.declared.inode.Inode.{Inode}
use Rattle.layout.specs.declared.kind.Kind.{Kind}
use Rattle.layout.specs.declared.kind.Kind.TheVariants.{Free, Directory}
use Rattle.model.specs.declared.limits.TheConstants.{ROOT_NUMBER}
use Rattle.images.specs.Roots.{inode_part}
use Rattle.images.specs.Soundness.{FitsNumber}

-- the kinds that the inode at a place of the inode file may have, in an image of so many inodes
pub record HasKindOfPlace (inodes n : ℕ) (kind : Kind) : Type 0 where
  pub number : 1 ≤ n → n < inodes → FitsNumber n kind
  pub root : n ≡ ROOT_NUMBER → kind ≡ Directory
  pub none : n ≡ 0 → kind ≡ Free
  pub past : inodes ≤ n → kind ≡ Free

-- these bytes are the inode at place n of an inode file, in an image of this version and these
-- sizes
pub record IsInodeAt (version : ℕ) (s : Sizes) (n : ℕ) (bytes : List ℕ) : Type 0 where
  pub inode : Inode
  pub is : IsInode s inode
  pub within : inode.size ≤ greatest_under version
  pub spelled : bytes ≡ inode_bytes inode
  pub kind : HasKindOfPlace s.inodes n inode.kind

-- a block of an inode file, its first inode at this place: inodes, and zeros behind them
pub record IsInodeBlock (version : ℕ) (s : Sizes) (first : ℕ) (bytes : List ℕ) : Type 0 where
  pub each : (k : ℕ) → k < INODES_PER_BLOCK → IsInodeAt version s (first + k) (inode_part bytes k)
  pub behind : drop (INODE_BYTES * INODES_PER_BLOCK) bytes ≡ zeros (BLOCK_BYTES - INODE_BYTES * INODES_PER_BLOCK)

-- all blocks of an inode file are so
abbrev pub AreInodeBlocks : ℕ → Sizes → (ℕ → List ℕ) → Type 0
AreInodeBlocks version s block =
    (i : ℕ) → i < div_ceil s.inodes INODES_PER_BLOCK → IsInodeBlock version s (INODES_PER_BLOCK * i) (block i)
