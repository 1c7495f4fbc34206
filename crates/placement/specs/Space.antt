-- How many blocks a file may take of a disk.
use Rattle.std.specs.Prelude.{ℕ, zero, suc, ◌+◌, min}
use Rattle.layout.specs.declared.trees.Layout.{Layout}
use Rattle.layout.specs.declared.trees.Layout.TheVariants.{Plain, Summed}
use Rattle.images.specs.Sums.{sum_below}
use Rattle.blocktree.specs.Names.{nodes_at}
use Rattle.blocktree.specs.Places.{block_count}
pub use Rattle.inode.specs.Room.{more_over, tops_over}
use Rattle.inode.specs.declared.file.File.{File}
use Rattle.conspoint.specs.Space.{changed_blocks}
use Rattle.placement.specs.Files.{file_level}

-- What a consistency point stores of a file's nodes at a height, where so many of its blocks are
-- changed: these, over them at the most one indirect block for each, and so many more; so many of
-- the third height; and higher up all that there are.
unfoldable pub height_stores : Layout → ℕ → ℕ → ℕ → ℕ → ℕ → ℕ
height_stores layout blocks changed more tops zero = changed
height_stores layout blocks changed more tops (suc zero) = min (nodes_at layout blocks 1) (changed + more)
height_stores layout blocks changed more tops (suc (suc zero)) = tops
height_stores layout blocks changed more tops (suc (suc (suc height))) = nodes_at layout blocks (suc (suc (suc height)))

-- and of all of them at a level
abbrev pub level_stores : Layout → ℕ → ℕ → ℕ → ℕ → ℕ → ℕ
level_stores layout level blocks changed more tops =
    sum_below (height_stores layout blocks changed more tops) level

-- so many of the third height: of the plain layout those that may be stored anew are counted, and
-- of the other all
abbrev pub tops_stored : Layout → File → ℕ
tops_stored Plain f = tops_over f
tops_stored Summed f = nodes_at Summed (block_count f.size) 2

-- what it stores of a changed file
abbrev pub file_stores : File → ℕ
file_stores f =
    level_stores f.tree.layout (file_level f) (block_count f.size) (changed_blocks f.tree 0 (block_count f.size))
    (more_over f) (tops_stored f.tree.layout f)

-- and of one whose block 0 is stored in any case, and of the third height all
abbrev pub first_stores : File → ℕ
first_stores f =
    level_stores f.tree.layout (file_level f) (block_count f.size)
    (changed_blocks f.tree 1 (block_count f.size) + 1) (more_over f) (nodes_at f.tree.layout (block_count f.size) 2)
