-- The inodes that the blocks of the inode file spell, and which of its blocks are changed.
use Rattle.std.specs.Prelude.{ℕ, ◌≡◌, ◌⊎◌, ◌-◌, ◌*◌, ◌/◌, ◌%◌, ◌<◌, ◌≤◌, ◌==◌, List, drop, if◌then◌else◌}
use Rattle.layout.specs.Bytes.{zeros}
use Rattle.layout.specs.Inode.{inode_bytes}
use Rattle.layout.specs.declared.TheConstants.{BLOCK_BYTES, INODE_BYTES, INODES_PER_BLOCK}
use Rattle.layout.specs.declared.inode.Inode.{Inode}
use Rattle.blocktree.specs.Trees.{IsChanged, KeepsSound, SameSettled}
use Rattle.blocktree.specs.declared.tree.BlockTree.{BlockTree}
use Rattle.images.specs.InodeFiles.{spliced_at}
use Rattle.images.specs.Roots.{inode_bytes_at}
use Rattle.inode.specs.declared.file.File.{File}
use Rattle.inofile.specs.Inodes as numbers
use Rattle.inofile.specs.declared.inode_file.InodeFile.{InodeFile}

-- The blocks spell these inodes, and zeros elsewhere: for number 0, past the last number, and
-- behind the last inode of each block.
pub record AreSpelled (inodes : ℕ) (block : ℕ → List ℕ) (inode : ℕ → Inode) : Type 0 where
  pub each : (n : ℕ) → 1 ≤ n → n < inodes → inode_bytes_at block n ≡ inode_bytes (inode n)
  pub first : inode_bytes_at block 0 ≡ zeros INODE_BYTES
  pub past : (n : ℕ) → inodes ≤ n → inode_bytes_at block n ≡ zeros INODE_BYTES
  pub behind : (i : ℕ) → drop (INODE_BYTES * INODES_PER_BLOCK) (block i)
      ≡ zeros (BLOCK_BYTES - INODE_BYTES * INODES_PER_BLOCK)

-- these blocks with an inode in the place of a number
abbrev pub with_inode_at : (ℕ → List ℕ) → ℕ → Inode → ℕ → List ℕ
with_inode_at block n f i =
    if i == n / INODES_PER_BLOCK
    then spliced_at (INODE_BYTES * (n % INODES_PER_BLOCK)) (inode_bytes f) (block (n / INODES_PER_BLOCK))
    else block i

-- these inodes with that of a number
abbrev pub with_number : (ℕ → Inode) → ℕ → Inode → ℕ → Inode
with_number inode n f k = if k == n then f else inode k

-- a changed number has its inode in block i
abbrev pub HasChange : InodeFile → ℕ → Type 0
HasChange s i = (n : ℕ) × (n / INODES_PER_BLOCK ≡ i) × numbers.IsChanged s n

-- only these blocks of a file become changed, and no block is cut off
pub record ChangesOnly (IsOne : ℕ → Type 0) (old new : BlockTree) : Type 0 where
  pub kept : new.kept ≡ old.kept
  pub only : (i : ℕ) → IsChanged new i → IsOne i ⊎ IsChanged old i

-- a file in memory of which only these blocks become changed: its size stays, and what is settled
-- of it
pub record ChangesFile (IsOne : ℕ → Type 0) (old new : File) : Type 0 where
  pub size : new.size ≡ old.size
  pub settled : SameSettled old.tree new.tree
  pub sound : KeepsSound old.tree new.tree
  pub changes : ChangesOnly IsOne old.tree new.tree

-- the same, of whichever blocks
pub record KeepsFile (old new : File) : Type 0 where
  pub size : new.size ≡ old.size
  pub settled : SameSettled old.tree new.tree
  pub sound : KeepsSound old.tree new.tree
  pub kept : new.tree.kept ≡ old.tree.kept
