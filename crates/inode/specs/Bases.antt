-- The tree of a file over the inode that is settled.
use Rattle.std.specs.Prelude.{ℕ, ◌≡◌, List}
use Rattle.layout.specs.declared.inode.Body.{Body}
use Rattle.layout.specs.declared.inode.Body.TheVariants.{Inline, Pointers}
use Rattle.layout.specs.declared.inode.Inode.{Inode}
use Rattle.layout.specs.declared.pointer.Pointer.{Pointer}
use Rattle.layout.specs.declared.trees.Layout.{Layout}
use Rattle.blocktree.specs.Places.{block_count, depth_of}
use Rattle.blocktree.specs.Trees.{IsChanged}
use Rattle.blocktree.specs.declared.tree.BlockTree.{BlockTree}

-- the tree has the layout and the pointers of a settled file of this size, and counts blocks of it
pub record HasPointers (layout : Layout) (pointers : List Pointer) (size : ℕ) (t : BlockTree) : Type 0 where
  pub layout_is : t.layout ≡ layout
  pub pointers_are : t.pointers ≡ pointers
  pub depth : t.depth ≡ depth_of layout size
  pub count : t.count ≡ block_count size

-- the tree as it is after loading: all settled blocks count, and of an inline body there are none
abbrev pub StartsFrom : Layout → Body → ℕ → BlockTree → Type 0
StartsFrom layout (Inline bytes) size t = (t.layout ≡ layout) × (t.count ≡ 0)
StartsFrom layout (Pointers pointers) size t = HasPointers layout pointers size t × (t.kept ≡ t.count)

-- no block is changed after loading, but the one that an inline body became
abbrev pub StartsUnchanged : Body → BlockTree → Type 0
StartsUnchanged (Inline bytes) t = (i : ℕ) → IsChanged t i → i ≡ 0
StartsUnchanged (Pointers pointers) t = (i : ℕ) → IsChanged t i → ⊥

-- A tree has the layout of this inode, and its settled blocks are those that the inode names, or it
-- has none.
pub data IsBased (settled : Inode) (t : BlockTree) : Type 0 where
  anew : (layout_is : t.layout ≡ settled.layout) → (none : t.count ≡ 0) → IsBased settled t
  over : (pointers : List Pointer) → (body : settled.body ≡ Pointers pointers)
      → (has : HasPointers settled.layout pointers settled.size t) → IsBased settled t

-- what was based on an inode is so still
abbrev pub KeepsBase : BlockTree → BlockTree → Type 0
KeepsBase old new = (settled : Inode) → IsBased settled old → IsBased settled new
