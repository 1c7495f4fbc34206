-- Where the nodes at one height of a file lie, in groups of as many as an indirect block has
-- pointers.
use Rattle.std.specs.Prelude.{ℕ, ◌≡◌, ◌/◌, ◌%◌, ◌<◌, ◌≤◌, List, Option, Some, None, slice_index_or}
use Rattle.std.specs.Ordering.{nat_cmp}
use Rattle.std.specs.BTreeMap as tree
use Rattle.layout.specs.Pointer.{PointsBelow}
use Rattle.layout.specs.Trees.{fan_out}
use Rattle.layout.specs.declared.pointer.Pointer.{Pointer}
use Rattle.layout.specs.declared.pointer.Pointer.TheVariants.{Hole, Block}
use Rattle.blocktree.specs.declared.place_map.PlaceMap.{PlaceMap}

-- pointer r of a group, where there is one: else a hole
abbrev pub pointer_in : Option (List Pointer) → ℕ → Pointer
pointer_in (Some group) r = slice_index_or group r Hole
pointer_in None r = Hole

-- the pointer to node i: a hole where none is stored
unfoldable pub place_at : PlaceMap → ℕ → Pointer
place_at p i = pointer_in (tree.get nat_cmp p.groups (i / fan_out p.layout)) (i % fan_out p.layout)

-- no pointer leads past a disk of so many blocks
abbrev pub AreBelow : ℕ → PlaceMap → Type 0
AreBelow blocks p = (i : ℕ) → PointsBelow blocks (place_at p i)

-- from this index on all are holes
abbrev pub EndBefore : ℕ → PlaceMap → Type 0
EndBefore n p = (i : ℕ) → n ≤ i → place_at p i ≡ Hole

-- one of the first so many nodes lies there
abbrev pub StandsBelow : PlaceMap → ℕ → ℕ → Type 0
StandsBelow p count b = (i : ℕ) × (i < count) × (place_at p i ≡ Block b)
