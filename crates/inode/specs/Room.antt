-- What a consistency point may store of a file in memory: a bound that no change raises by more
-- than the change costs. It is one for files of the plain layout.
use Rattle.std.specs.Prelude.{ℕ, zero, suc, ◌+◌, ◌-◌, ◌*◌, ◌/◌, ◌≤◌, ◌==◌, min, max, nat_lt, if◌then◌else◌}
use Rattle.std.specs.Ordering.{nat_cmp}
use Rattle.std.specs.BTreeMap as tree
use Rattle.layout.specs.Trees.{greatest_size, level_of}
use Rattle.layout.specs.declared.TheConstants.{BLOCK_POINTERS, BODY_POINTERS, SINGLE_BYTES}
use Rattle.layout.specs.declared.trees.Layout.TheVariants.{Plain}
use Rattle.model.specs.Room.{touched}
use Rattle.blocktree.specs.Places.{block_count, depth_of}
use Rattle.blocktree.specs.Trees.{slot_stores}
use Rattle.blocktree.specs.declared.tree.BlockTree.{BlockTree}
use Rattle.images.specs.Sums.{sum_below}
use Rattle.inode.specs.Files.{IsCommitted}
use Rattle.inode.specs.declared.file_update.FileUpdate.{FileUpdate}
use Rattle.inode.specs.declared.file.File.{File}

-- how many of the first n blocks are changed
abbrev pub changed_below : BlockTree → ℕ → ℕ
changed_below t n = sum_below (λ i. slot_stores (tree.get nat_cmp t.slots i)) n

-- how many of all that a file may have
abbrev pub changed_count : BlockTree → ℕ
changed_count t = changed_below t (block_count (greatest_size Plain))

-- One indirect block more where settled blocks were cut off, or the file has another level than it
-- had: of a file that has settled blocks.
abbrev pub more_over : File → ℕ
more_over f =
    if nat_lt (min f.tree.kept (block_count f.size)) f.tree.count
    then 1
    else if f.tree.depth == depth_of f.tree.layout f.size then 0 else min 1 f.tree.count

-- so many blocks of a file an indirect block of the third height leads to, where there is one
abbrev pub TOP_BLOCKS : ℕ
TOP_BLOCKS = BLOCK_POINTERS * BLOCK_POINTERS

-- one for group g of so many blocks, where one of these is changed, or the last settled block that
-- counts is among them and more is stored over it
abbrev pub top_over : File → ℕ → ℕ
top_over f g =
    min 1 (sum_below (λ k. slot_stores (tree.get nat_cmp f.tree.slots (TOP_BLOCKS * g + k))) TOP_BLOCKS
    + (if g == (min f.tree.kept (block_count f.size) - 1) / TOP_BLOCKS then more_over f else 0))

-- how many there are, but the first: none of a file that a third height doesn't lead to
abbrev pub far_tops : File → ℕ
far_tops f = sum_below (λ g. top_over f (suc g)) (BODY_POINTERS - 1)

-- and of all
abbrev pub tops_over : File → ℕ
tops_over f = top_over f 0 + far_tops f

-- The bound at a level: each changed block may bring an indirect block with it, and where there is
-- a third height, those there are counted. Bytes that stand in the inode are one changed block,
-- which isn't stored.
abbrev pub level_room : ℕ → ℕ → ℕ → ℕ → ℕ
level_room zero changed more top = 2 * (changed - 1)
level_room (suc zero) changed more top = 2 * changed + more
level_room (suc (suc zero)) changed more top = 2 * changed + more
level_room (suc (suc (suc level))) changed more top = 2 * changed + more + top

abbrev pub file_room : File → ℕ
file_room f = level_room (level_of Plain f.size) (changed_count f.tree) (more_over f) (top_over f 0) + far_tops f

-- put in force on a file, a change raises the bound by so much at the most
abbrev pub StoresMore : File → FileUpdate → ℕ → Type 0
StoresMore f w k = (new : File) → IsCommitted f w new → file_room new ≤ file_room f + k

-- By so much a write of no more bytes than a call may write, into a file of this size: twice the
-- blocks that it touches, and three where the file leaves its inode; three more where there is a
-- third height over its blocks then.
abbrev pub write_room : ℕ → ℕ → ℕ → ℕ
write_room size offset count =
    2 * touched offset count + (if nat_lt SINGLE_BYTES (max size (offset + count)) then 6 else 3)

-- and so much another size
abbrev pub size_room : ℕ → ℕ → ℕ
size_room size to = 4

-- and so much an edit of a directory that changes so many blocks: with a third height three for
-- each. A directory that grows, or was in its inode, has none.
abbrev pub edit_room : ℕ → ℕ
edit_room pieces = 2 * pieces + 3 + (pieces - 1)
