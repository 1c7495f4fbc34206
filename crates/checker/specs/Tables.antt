-- The rows of a tree's numbers, as they are read.
use Rattle.std.specs.Prelude.{ℕ, ◌≡◌, ◌/◌, ◌%◌, List, slice_get, Option, Some, None}
use Rattle.layout.specs.Inode.{IsInode, inode_bytes}
use Rattle.layout.specs.Limits.{Sizes}
use Rattle.layout.specs.Places.{Blocks, pointed}
use Rattle.layout.specs.declared.TheConstants.{INODES_PER_BLOCK}
use Rattle.layout.specs.declared.inode.Inode.{Inode}
use Rattle.buffers.specs.Disks.{IsWhole}
use Rattle.blocktree.specs.Names.{AreNodes}
use Rattle.blocktree.specs.PlaceMaps.{EndBefore, place_at}
use Rattle.blocktree.specs.declared.place_map.PlaceMap.{PlaceMap}
use Rattle.blocktree.specs.declared.tree.BlockTree.{BlockTree}
use Rattle.images.specs.Roots.{inode_part}
use Rattle.checker.specs.declared.names.NumberRow.{NumberRow}
use Rattle.checker.specs.declared.table.NumberTable.{NumberTable}

-- where an inode of a number stands at these places, a row has what it has, and no name yet
pub record IsRowAt (disk : Blocks) (places : PlaceMap) (n : ℕ) (row : NumberRow) : Type 0 where
  pub unnamed : row.names ≡ 0
  pub inode : (s : Sizes) (i : Inode) → IsInode s i → IsWhole (pointed disk (place_at places (n / INODES_PER_BLOCK)))
      → inode_part (pointed disk (place_at places (n / INODES_PER_BLOCK))) (n % INODES_PER_BLOCK) ≡ inode_bytes i
      → (row.kind ≡ i.kind) × (row.links ≡ i.links)

-- so has each of these rows
abbrev pub AreRowsAt : Blocks → PlaceMap → List NumberRow → Type 0
AreRowsAt disk places rows = (n : ℕ) (row : NumberRow) → slice_get rows n ≡ Some row → IsRowAt disk places n row

-- rows that are known are those of their places
abbrev pub IsKnown : Blocks → Option NumberTable → Type 0
IsKnown disk None = Unit {0}
IsKnown disk (Some known) = AreRowsAt disk known.places known.rows.items

-- these are the places of all settled blocks of a tree
abbrev pub ArePlaces : (ℕ → List ℕ) → BlockTree → PlaceMap → Type 0
ArePlaces disk t places = AreNodes t.layout disk t.pointers t.depth t.count places × EndBefore t.count places
