-- The bytes of a settled inode, at each level.
use Rattle.std.specs.Prelude.{ℕ, ◌==◌, List, take, if◌then◌else◌}
use Rattle.layout.specs.Bytes.{zeros}
use Rattle.layout.specs.declared.inode.Body.{Body}
use Rattle.layout.specs.declared.inode.Body.TheVariants.{Inline, Pointers}
use Rattle.layout.specs.declared.inode.Inode.{Inode}
use Rattle.layout.specs.declared.trees.Layout.{Layout}
use Rattle.inode.specs.Edges.{filled}
use Rattle.blocktree.specs.Places.{block_count, depth_of}
use Rattle.blocktree.specs.Trees.{settled_block}

-- block i of a file with this body and size; of an inline body only the bytes before the size count
abbrev pub body_block : Layout → (ℕ → List ℕ) → Body → ℕ → ℕ → List ℕ
body_block layout disk (Inline bytes) size i = if i == 0 then filled 4096 (take size bytes) else zeros 4096
body_block layout disk (Pointers pointers) size i =
    settled_block layout disk pointers (depth_of layout size) (block_count size) i

-- block i of the file with this inode
abbrev pub inode_block : (ℕ → List ℕ) → Inode → ℕ → List ℕ
inode_block disk inode = body_block inode.layout disk inode.body inode.size
