-- What a new image starts from: a disk of zeros of which no block is in use, and the bytes of its
-- first files.
use Rattle.std.specs.Prelude.{ℕ, ◌≡◌, ◌+◌, ◌*◌, ◌<◌, List, ◌∷◌, length, slice_index, true, ◌==◌, nat_lt, if◌then◌else◌}
use Rattle.std.specs.Int.{div_ceil}
use Rattle.layout.specs.Bytes.{zeros}
use Rattle.layout.specs.Inode.{inode_bytes}
use Rattle.layout.specs.Places.{Blocks}
use Rattle.layout.specs.declared.TheConstants.{BLOCK_BYTES, BLOCK_POINTERS, INODE_BYTES}
use Rattle.layout.specs.declared.inode.Inode.{Inode}
use Rattle.layout.specs.declared.trees.Layout.{Layout}
use Rattle.blockmap.specs.Maps.{IsTouched, entry_at, settled_at}
use Rattle.blockmap.specs.Parts.{Part}
use Rattle.blockmap.specs.declared.map.BlockMap.{BlockMap}
use Rattle.images.specs.FirstRoots.{empty_directory}
use Rattle.images.specs.InodeFiles.{spliced_at}
use Rattle.making.specs.declared.map.TheConstants.{SYSTEM_ENTRY}

abbrev pub nothing : Blocks
nothing place = zeros BLOCK_BYTES

-- the entry of a block that no tree names: the first two hold the roots
abbrev pub system_entry : ℕ → ℕ
system_entry block = if nat_lt block 2 then SYSTEM_ENTRY else 0

-- part k of the map of such a disk, which is stored anew
pub record IsEmptyPart (k : ℕ) (p : Part) : Type 0 where
  pub settled : (i : ℕ) → i < BLOCK_POINTERS
      → slice_index p.settled i ≡ system_entry (BLOCK_POINTERS * k + i)
  pub entries : (i : ℕ) → i < BLOCK_POINTERS
      → slice_index p.entries i ≡ system_entry (BLOCK_POINTERS * k + i)
  pub touched : p.is_touched ≡ true

-- the map of such a disk of so many blocks
pub record IsEmptyMap (blocks : ℕ) (m : BlockMap) : Type 0 where
  pub count : m.count ≡ blocks
  pub next : m.next ≡ 2
  pub parts : length m.parts.items ≡ div_ceil blocks BLOCK_POINTERS
  pub settled : (b : ℕ) → settled_at m.parts.items b ≡ system_entry b
  pub entries : (b : ℕ) → entry_at m.parts.items b ≡ system_entry b
  pub touched : (j : ℕ) → j < length m.parts.items → IsTouched m.parts.items j

-- block i of the inode map: the numbers 0 to 3 are taken
abbrev pub numbers_block : ℕ → List ℕ
numbers_block i = if i == 0 then 15 ∷ zeros 4095 else zeros 4096

-- the first block of the inode file, with the inodes of the two maps and of the root directory, in
-- an image of this layout
abbrev pub inodes_block : Layout → Inode → Inode → List ℕ
inodes_block layout numbers map =
    spliced_at (INODE_BYTES * 3) (inode_bytes (empty_directory layout))
    (spliced_at (INODE_BYTES * 2) (inode_bytes map) (spliced_at (INODE_BYTES * 1) (inode_bytes numbers) (zeros BLOCK_BYTES)))
