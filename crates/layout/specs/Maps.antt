-- The blocks of the inode map and of the block map, and indirect blocks.
use Rattle.std.specs.Prelude.{ℕ, ◌≡◌, ◌≢◌, ◌+◌, ◌*◌, ◌/◌, ◌%◌, ◌^◌, ◌<◌, ◌≤◌, List, length, drop, min, slice_index}
use Rattle.layout.specs.Bytes.{number}
use Rattle.layout.specs.Pointer.{PointsBelow, pointer_of}
use Rattle.layout.specs.Trees.{fan_out}
use Rattle.layout.specs.declared.trees.Layout.{Layout}
use Rattle.layout.specs.declared.TheConstants.{BLOCK_BYTES, BLOCK_POINTERS}
use Rattle.model.specs.declared.limits.TheConstants.{FIRST_NUMBER}
use Rattle.layout.specs.declared.pointer.Pointer.{Pointer}
use Rattle.layout.specs.declared.pointer.Pointer.TheVariants.{Hole}

-- the number n is taken: bit n mod 8 of byte n div 8 is set
abbrev pub IsTaken : List ℕ → ℕ → Type 0
IsTaken bytes n = slice_index bytes (n / 8) / 2 ^ (n % 8) % 2 ≡ 1

-- Bytes of an inode map of so many inodes, bit i being that of number `first + i`: the numbers 0 to
-- 3 are taken, and none from `inodes` on. A map of several blocks is one such part after the other.
pub record IsInodeMap (first inodes : ℕ) (bytes : List ℕ) : Type 0 where
  pub own : (i : ℕ) → i < 8 * length bytes → first + i < FIRST_NUMBER → IsTaken bytes i
  pub past : (i : ℕ) → i < 8 * length bytes → inodes ≤ first + i → IsTaken bytes i → ⊥

-- number i of those of four bytes that stand one behind the other
abbrev pub word : List ℕ → ℕ → ℕ
word bytes i = number 4 (drop (4 * i) bytes)

-- entry i of a block of the block map
abbrev pub map_entry : List ℕ → ℕ → ℕ
map_entry bytes i = word bytes i

-- pointer i of an indirect block
abbrev pub indirect_pointer : List ℕ → ℕ → Pointer
indirect_pointer bytes i = pointer_of (word bytes i)

-- new is old but for number i, which is x
pub record SetsWord (i x : ℕ) (old new : List ℕ) : Type 0 where
  pub there : word new i ≡ x
  pub others : (k : ℕ) → 4 * k + 4 ≤ length old → k ≢ i → word new k ≡ word old k

-- the numbers of a block are pointers to blocks of the disk, and those behind the first `used` are
-- holes
abbrev pub PointsWithin : ℕ → ℕ → List ℕ → Type 0
PointsWithin blocks used bytes =
    (i : ℕ) → i < BLOCK_POINTERS → PointsBelow blocks (indirect_pointer bytes i) × (used ≤ i → indirect_pointer bytes i ≡ Hole)

-- a block of pointers, of which the first `used` may lead to blocks of the disk; one does
pub record IsPointerBlock (blocks used : ℕ) (bytes : List ℕ) : Type 0 where
  pub size : length bytes ≡ BLOCK_BYTES
  pub within : PointsWithin blocks used bytes
  pub some : (i : ℕ) × (i < BLOCK_POINTERS) × (indirect_pointer bytes i ≡ Hole → ⊥)

-- an indirect block over so many blocks of a file: no pointer leads past the disk, those behind the
-- file's end are holes, as is what stands behind the pointers, and not all are
abbrev pub IsIndirectBlock : Layout → ℕ → ℕ → List ℕ → Type 0
IsIndirectBlock layout blocks used bytes = IsPointerBlock blocks (min used (fan_out layout)) bytes
