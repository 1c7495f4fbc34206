-- What a consistency point may store for what memory has, number by number.
use Rattle.std.specs.Prelude.{ℕ, ◌+◌, ◌≤◌, if◌then◌else◌, Option, Some, None}
use Rattle.std.specs.Ordering.{nat_cmp}
use Rattle.std.specs.BTreeMap as tree
use Rattle.model.specs.Volumes.{Node, Volume, is_orphan}
use Rattle.images.specs.Sums.{sum_below}
use Rattle.inode.specs.Room.{file_room}
use Rattle.inofile.specs.declared.inode_file.ObjectSlot.{ObjectSlot}
use Rattle.inofile.specs.declared.inode_file.ObjectSlot.TheVariants.{AsSettled, Loaded, Changed}
use Rattle.inofile.specs.declared.inode_file.InodeFile.{InodeFile}

-- the block of the inode and the indirect one over it, and what is stored of the file
abbrev pub slot_room : Option ObjectSlot → ℕ
slot_room None = 0
slot_room (Some AsSettled) = 0
slot_room (Some (Loaded object)) = 0
slot_room (Some (Changed None)) = 2
slot_room (Some (Changed (Some object))) = 2 + file_room object.file

-- no number needs more than it did
abbrev pub NeedsNoMore : InodeFile → InodeFile → Type 0
NeedsNoMore old new =
    (n k : ℕ) → slot_room (tree.get nat_cmp old.slots n) ≤ k → slot_room (tree.get nat_cmp new.slots n) ≤ k

-- a block of the inode map, where an object came or went
abbrev pub has_moved : Option Node → Option Node → ℕ
has_moved None None = 0
has_moved None (Some new) = 1
has_moved (Some old) None = 1
has_moved (Some old) (Some new) = 0

-- what is kept for an orphan, which a later point has to drop
abbrev pub orphan_room : Option Node → ℕ
orphan_room o = if is_orphan o then 4 else 0

-- what memory has of a number, over a settled tree that has the one object, and standing for the
-- other
abbrev pub room_of : Option ObjectSlot → Option Node → Option Node → ℕ
room_of slot settled now = slot_room slot + has_moved settled now + orphan_room now

abbrev pub number_room : Volume → InodeFile → Volume → ℕ → ℕ
number_room base s v n = room_of (tree.get nat_cmp s.slots n) (base n) (v n)

-- for all numbers: `base` is the volume of the settled tree, and memory stands for v
abbrev pub memory_room : Volume → InodeFile → Volume → ℕ
memory_room base s v = sum_below (number_room base s v) s.geometry.inodes
