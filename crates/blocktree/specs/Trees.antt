-- A file's blocks: those of its settled inode, and over them the changed ones.
use Rattle.std.specs.Prelude.{ℕ, ◌≡◌, ◌<◌, ◌≤◌, List, nat_lt, if◌then◌else◌, Bool, true, false, ◌&&◌, IsFalse, Option, Some, None}
use Rattle.std.specs.Ordering.{nat_cmp}
use Rattle.std.specs.BTreeMap as tree
use Rattle.layout.specs.Bytes.{zeros}
use Rattle.layout.specs.declared.pointer.Pointer.{Pointer}
use Rattle.layout.specs.declared.pointer.Pointer.TheVariants.{Hole, Block}
use Rattle.layout.specs.declared.trees.Layout.{Layout}
use Rattle.buffers.specs.Disks.{IsWhole}
use Rattle.blocktree.specs.Names.{AreNodes}
use Rattle.blocktree.specs.Places.{pointed, place, IsPath}
use Rattle.blocktree.specs.declared.place_map.PlaceMap.{PlaceMap}
use Rattle.blocktree.specs.declared.slot.Slot.{Slot}
use Rattle.blocktree.specs.declared.slot.Slot.TheVariants.{AsSettled, Changed}
use Rattle.blocktree.specs.declared.tree.Location.{Location}
use Rattle.blocktree.specs.declared.tree.Location.TheVariants as locations
use Rattle.blocktree.specs.declared.tree.BlockTree.{BlockTree}

-- block i as an inode with these pointers has it, of which the first `kept` count
unfoldable pub settled_block : Layout → (ℕ → List ℕ) → List Pointer → ℕ → ℕ → ℕ → List ℕ
settled_block layout disk pointers depth kept i =
    if nat_lt i kept then pointed disk (place layout disk pointers depth i) else zeros 4096

-- a block with what is in memory of it over what stands below
abbrev pub slot_bytes : Option Slot → List ℕ → List ℕ
slot_bytes (Some (Changed block)) below = block
slot_bytes (Some AsSettled) below = below
slot_bytes None below = below

-- block i
abbrev pub tree_block : (ℕ → List ℕ) → BlockTree → ℕ → List ℕ
tree_block disk t i =
    slot_bytes (tree.get nat_cmp t.slots i) (settled_block t.layout disk t.pointers t.depth t.kept i)

-- block i has room for a change
abbrev pub HasRoom : BlockTree → ℕ → Type 0
HasRoom t i = tree.ContainsKey nat_cmp t.slots i

-- no block differs, whatever the disk
abbrev pub SameBlocks : BlockTree → BlockTree → Type 0
SameBlocks old new = (disk : ℕ → List ℕ) (i : ℕ) → tree_block disk new i ≡ tree_block disk old i

-- what a consistency point settled of a file is the same
pub record SameSettled (old new : BlockTree) : Type 0 where
  pub layout : new.layout ≡ old.layout
  pub pointers : new.pointers ≡ old.pointers
  pub depth : new.depth ≡ old.depth
  pub count : new.count ≡ old.count

-- room that was there is there still
abbrev pub KeepsRoom : BlockTree → BlockTree → Type 0
KeepsRoom old new = (i : ℕ) → HasRoom old i → HasRoom new i

abbrev pub IsChangedSlot : Option Slot → Type 0
IsChangedSlot (Some (Changed block)) = Unit {0}
IsChangedSlot (Some AsSettled) = ⊥
IsChangedSlot None = ⊥

-- what memory has of the blocks below `count` stays, and it has nothing of the others
abbrev pub AreTrimmed : ℕ → tree.BTreeMap ℕ Slot → tree.BTreeMap ℕ Slot → Type 0
AreTrimmed count old new = (i : ℕ) → tree.get nat_cmp new i ≡ (if nat_lt i count then tree.get nat_cmp old i else None)

-- one for a changed block
abbrev pub slot_stores : Option Slot → ℕ
slot_stores (Some (Changed block)) = 1
slot_stores (Some AsSettled) = 0
slot_stores None = 0

-- block i is changed
abbrev pub IsChanged : BlockTree → ℕ → Type 0
IsChanged t i = IsChangedSlot (tree.get nat_cmp t.slots i)

-- no block more is changed, and as many settled ones count
pub record SameChanges (old new : BlockTree) : Type 0 where
  pub settled : SameSettled old new
  pub kept : new.kept ≡ old.kept
  pub only : (i : ℕ) → IsChanged new i → IsChanged old i

-- where the settled inode counts for block i, what stands on a disk of so many blocks over it is in
-- the grammar, and the block itself can be read
abbrev pub IsSoundAt : ℕ → (ℕ → List ℕ) → BlockTree → ℕ → Type 0
IsSoundAt blocks disk t i =
    (IsChanged t i → ⊥) → i < t.kept
    → IsPath t.layout blocks disk t.pointers t.depth t.count i × IsWhole (pointed disk (place t.layout disk t.pointers t.depth i))

-- what stands on a disk of so many blocks over the settled blocks is in the grammar
abbrev pub AreSound : ℕ → (ℕ → List ℕ) → BlockTree → Type 0
AreSound blocks disk t = (i : ℕ) → i < t.count → IsPath t.layout blocks disk t.pointers t.depth t.count i

-- what was in the grammar is so still
abbrev pub KeepsSound : BlockTree → BlockTree → Type 0
KeepsSound old new =
    (blocks : ℕ) (disk : ℕ → List ℕ) (i : ℕ)
    → IsSoundAt blocks disk old i → IsSoundAt blocks disk new i

-- block i is there
abbrev pub IsAtLocation : (ℕ → List ℕ) → BlockTree → ℕ → Location → Type 0
IsAtLocation disk t i locations.Changed = IsChanged t i
IsAtLocation disk t i locations.Hole = tree_block disk t i ≡ zeros 4096
IsAtLocation disk t i (locations.Disk place) = tree_block disk t i ≡ disk place

-- a fact of the place, where it is on the disk
abbrev pub OnDisk : Location → (ℕ → Type 0) → Type 0
OnDisk locations.Changed P = Unit {0}
OnDisk locations.Hole P = Unit {0}
OnDisk (locations.Disk place) P = P place

-- a pointer leads to a block
abbrev pub is_block : Pointer → Bool
is_block Hole = false
is_block (Block block) = true

-- whether a block is stored, with what is in memory of it over whether it is stored below
abbrev pub is_stored_over : Option Slot → Bool → Bool
is_stored_over (Some (Changed block)) below = true
is_stored_over (Some AsSettled) below = below
is_stored_over None below = below

-- whether block i is stored: it is changed in memory, or the settled inode counts for it and leads
-- to a block
abbrev pub is_stored : (ℕ → List ℕ) → BlockTree → ℕ → Bool
is_stored disk t i =
    is_stored_over (tree.get nat_cmp t.slots i) (nat_lt i t.kept && is_block (place t.layout disk t.pointers t.depth i))

-- no block from one index on and before another is stored
abbrev pub AreHoles : (ℕ → List ℕ) → BlockTree → ℕ → ℕ → Type 0
AreHoles disk t from to = (i : ℕ) → from ≤ i → i < to → IsFalse (is_stored disk t i)

-- no unchanged one of them is
abbrev pub AreSettledHoles : (ℕ → List ℕ) → BlockTree → ℕ → ℕ → Type 0
AreSettledHoles disk t from to = (i : ℕ) → from ≤ i → i < to → (IsChanged t i → ⊥) → IsFalse (is_stored disk t i)

-- these are the places of the settled blocks
abbrev pub AreSettledPlaces : (ℕ → List ℕ) → BlockTree → PlaceMap → Type 0
AreSettledPlaces disk t places = AreNodes t.layout disk t.pointers t.depth t.count places
