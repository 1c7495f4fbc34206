-- Where the blocks of a settled file lie: each node at a depth is a pointer of the inode or, one
-- deeper, of an indirect block.
use Rattle.std.specs.Prelude.{ℕ, zero, suc, ◌-◌, ◌*◌, ◌/◌, List, slice_index_or}
use Rattle.std.specs.Int.{div_ceil}
use Rattle.layout.specs.Maps.{IsIndirectBlock}
pub use Rattle.layout.specs.Places.{pointed, follow}
unfoldable pub use Rattle.layout.specs.Places.{place}
use Rattle.layout.specs.Pointer.{PointsBelow}
use Rattle.layout.specs.Trees.{fan_out, level_of}
use Rattle.layout.specs.declared.pointer.Pointer.{Pointer}
use Rattle.layout.specs.declared.pointer.Pointer.TheVariants.{Hole, Block}
use Rattle.layout.specs.declared.trees.Layout.{Layout}

-- how many blocks hold so many bytes
abbrev pub block_count : ℕ → ℕ
block_count size = div_ceil size 4096

-- how many indirect blocks stand between the inode of a file of this size and a block of it
abbrev pub depth_of : Layout → ℕ → ℕ
depth_of layout size = level_of layout size - 1

-- an indirect block, where one is stored, over so many nodes, on a disk of so many blocks
abbrev pub IsStoredNode : Layout → ℕ → (ℕ → List ℕ) → ℕ → Pointer → Type 0
IsStoredNode layout blocks disk used Hole = Unit {0}
IsStoredNode layout blocks disk used (Block place) = IsIndirectBlock layout blocks used (disk place)

-- all that stands over node i of so many is in the grammar: the inode's pointer, and each indirect
-- block
unfoldable pub IsPath : Layout → ℕ → (ℕ → List ℕ) → List Pointer → ℕ → ℕ → ℕ → Type 0
IsPath layout blocks disk pointers zero count i = PointsBelow blocks (slice_index_or pointers i Hole)
IsPath layout blocks disk pointers (suc depth) count i =
    IsPath layout blocks disk pointers depth (div_ceil count (fan_out layout)) (i / fan_out layout)
    × IsStoredNode layout blocks disk (count - fan_out layout * (i / fan_out layout)) (place layout disk pointers depth (i / fan_out layout))
