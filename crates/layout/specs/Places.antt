-- The disk by blocks, and where the nodes of a file lie: each node at a depth is a pointer of the
-- inode or, one deeper, of an indirect block.
use Rattle.std.specs.Prelude.{ℕ, zero, suc, ◌+◌, ◌*◌, ◌/◌, ◌%◌, List, ◌++◌, slice_index_or}
use Rattle.layout.specs.Bytes.{zeros}
use Rattle.layout.specs.Maps.{indirect_pointer}
use Rattle.layout.specs.Trees.{fan_out}
use Rattle.layout.specs.declared.TheConstants.{BLOCK_BYTES}
use Rattle.layout.specs.declared.trees.Layout.{Layout}
use Rattle.layout.specs.declared.pointer.Pointer.{Pointer}
use Rattle.layout.specs.declared.pointer.Pointer.TheVariants.{Hole, Block}

-- the bytes of each block
abbrev pub Blocks : Type 0
Blocks = ℕ → List ℕ

-- the blocks of a disk: eight sectors each
unfoldable pub blocks_of : (ℕ → List ℕ) → Blocks
blocks_of disk b =
    disk (8 * b) ++ (disk (8 * b + 1) ++ (disk (8 * b + 2) ++ (disk (8 * b + 3)
    ++ (disk (8 * b + 4) ++ (disk (8 * b + 5) ++ (disk (8 * b + 6) ++ disk (8 * b + 7)))))))

-- the bytes at a pointer: zeros at a hole
abbrev pub pointed : Blocks → Pointer → List ℕ
pointed disk Hole = zeros BLOCK_BYTES
pointed disk (Block block) = disk block

-- pointer i of the indirect block at a pointer: under a hole all is a hole
abbrev pub follow : Blocks → Pointer → ℕ → Pointer
follow disk Hole i = Hole
follow disk (Block block) i = indirect_pointer (disk block) i

-- the pointer to node i at this depth under these of an inode: at depth 0 these, and the nodes at
-- the next depth are as many for each as an indirect block has pointers
unfoldable pub place : Layout → Blocks → List Pointer → ℕ → ℕ → Pointer
place layout disk pointers zero i = slice_index_or pointers i Hole
place layout disk pointers (suc depth) i =
    follow disk (place layout disk pointers depth (i / fan_out layout)) (i % fan_out layout)
