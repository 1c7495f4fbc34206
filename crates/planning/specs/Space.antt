-- How many blocks a consistency point may take: of each changed file, and of the inode file, what
-- is changed of it; of the block map all.
use Rattle.std.specs.Prelude.{ℕ, zero, suc, ◌≡◌, ◌↔◌, ◌+◌, ◌*◌, ◌<◌, ◌==◌, min, List, Option, Some, None, if◌then◌else◌}
use Rattle.std.specs.Int.{div_ceil}
use Rattle.std.specs.Ordering.{nat_cmp}
use Rattle.std.specs.BTreeMap as tree
use Rattle.layout.specs.declared.TheConstants.{BLOCK_BYTES, BLOCK_POINTERS, INODES_PER_BLOCK}
use Rattle.layout.specs.Maps.{IsTaken}
use Rattle.layout.specs.Trees.{level_of}
use Rattle.layout.specs.declared.root.Root.{Root}
use Rattle.images.specs.Sums.{sum_below}
use Rattle.blocktree.specs.Names.{nodes_at}
use Rattle.blocktree.specs.Places.{block_count}
use Rattle.conspoint.specs.MapFiles.{map_nodes}
use Rattle.inofile.specs.Inodes.{is_changed_slot}
use Rattle.inofile.specs.declared.inode_file.ObjectSlot.{ObjectSlot}
use Rattle.inofile.specs.declared.inode_file.ObjectSlot.TheVariants.{AsSettled, Loaded, Changed}
use Rattle.inofile.specs.declared.inode_file.InodeFile.{InodeFile}
use Rattle.placement.specs.Space.{file_stores, level_stores}

-- the blocks that a point stores of what memory has of a number
abbrev pub slot_nodes : Option ObjectSlot → ℕ
slot_nodes None = 0
slot_nodes (Some AsSettled) = 0
slot_nodes (Some (Loaded object)) = 0
slot_nodes (Some (Changed None)) = 0
slot_nodes (Some (Changed (Some object))) = file_stores object.file

-- those of a number
abbrev pub number_nodes : InodeFile → ℕ → ℕ
number_nodes s n = slot_nodes (tree.get nat_cmp s.slots n)

-- those of the numbers below n
unfoldable pub nodes_below : InodeFile → ℕ → ℕ
nodes_below s zero = 0
nodes_below s (suc n) = nodes_below s n + number_nodes s n

-- so many numbers one block of the inode map tells of
abbrev pub MAP_NUMBERS : ℕ
MAP_NUMBERS = 8 * BLOCK_BYTES

-- block i of a map with these bytes tells of its numbers what this block does
abbrev pub TellsSame : List ℕ → List ℕ → ℕ → Type 0
TellsSame bytes block i = (k : ℕ) → k < MAP_NUMBERS → IsTaken block k ↔ IsTaken bytes (MAP_NUMBERS * i + k)

-- these numbers count each block of the inode map that tells other than the settled one of its
-- numbers
abbrev pub CountsBlocks : (ℕ → ℕ) → List ℕ → (ℕ → List ℕ) → Type 0
CountsBlocks w bytes settled = (i : ℕ) → w i ≡ 0 → TellsSame bytes (settled i) i

-- the blocks of the inode map that these numbers count
abbrev pub map_stores : (ℕ → ℕ) → InodeFile → ℕ
map_stores w s = sum_below w (block_count (div_ceil s.geometry.inodes 8))

-- one for a number that is changed
abbrev pub number_changes : InodeFile → ℕ → ℕ
number_changes s n = if is_changed_slot (tree.get nat_cmp s.slots n) then 1 else 0

-- one for a block of the inode file that is stored: the first, which has the inodes of the maps,
-- and each that has a changed number
abbrev pub top_block : InodeFile → ℕ → ℕ
top_block s i =
    if i == 0
    then 1
    else min 1 (sum_below (λ k. number_changes s (INODES_PER_BLOCK * i + k)) INODES_PER_BLOCK)

-- the blocks of an inode file of so many bytes: those, and the indirect ones over them
abbrev pub top_nodes : InodeFile → ℕ → ℕ
top_nodes s size =
    level_stores s.geometry.layout (level_of s.geometry.layout size) (block_count size) (sum_below (top_block s) (block_count size)) 0
    (nodes_at s.geometry.layout (block_count size) 2)

-- the blocks of a block map, an entry for each block of a disk of so many
abbrev pub map_file_nodes : ℕ → ℕ
map_file_nodes blocks = map_nodes (div_ceil blocks BLOCK_POINTERS)

-- The blocks that a point of this memory over this root may take, on a disk of so many: those of
-- the changed numbers, of the inode map the ones that are counted so, those of the inode file, and
-- of the block map.
abbrev pub point_stores : (ℕ → ℕ) → Root → InodeFile → ℕ → ℕ
point_stores w r s blocks =
    nodes_below s s.geometry.inodes + map_stores w s + top_nodes s r.inode_file.size + map_file_nodes blocks
