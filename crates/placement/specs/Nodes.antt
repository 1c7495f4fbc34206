-- Where the nodes of a file are, by height: its blocks, the indirect blocks over groups of
-- them, and so on.
use Rattle.std.specs.Prelude.{ℕ, zero, suc, ◌≡◌, ◌≢◌, ◌<◌, ◌+◌, ◌*◌, ◌≤◌, ◌⊎◌, List, length, slice_index, nat_lt, if◌then◌else◌, Option, Some, None}
use Rattle.std.specs.List.{slice_get}
use Rattle.layout.specs.Pointer.{PointsBelow}
use Rattle.layout.specs.Trees.{fan_out}
use Rattle.layout.specs.declared.trees.Layout.{Layout}
use Rattle.layout.specs.declared.trees.Layout.TheVariants.{Plain, Summed}
use Rattle.layout.specs.declared.pointer.Pointer.{Pointer}
use Rattle.layout.specs.declared.pointer.Pointer.TheVariants.{Hole, Block}
use Rattle.images.specs.Nodes.{Held}
use Rattle.blocktree.specs.Names.{nodes_at}
use Rattle.blocktree.specs.PlaceMaps.{AreBelow, place_at}
use Rattle.blocktree.specs.Trees.{IsChanged}
use Rattle.blocktree.specs.declared.place_map.PlaceMap.{PlaceMap}
use Rattle.blocktree.specs.declared.tree.BlockTree.{BlockTree}
use Rattle.conspoint.specs.declared.draft.Draft.{Draft}
use Rattle.conspoint.specs.Drafts.{WasTaken}
use Rattle.placement.specs.declared.nodes.Nodes.{Nodes}

-- the pointer to node i of these, where there are any
abbrev pub place_of : Option PlaceMap → ℕ → Pointer
place_of (Some places) i = place_at places i
place_of None i = Hole

-- node i at a height: holes above the highest
abbrev pub node : Nodes → ℕ → ℕ → Pointer
node n m i = place_of (slice_get n.heights.items m) i

-- how many heights have nodes
abbrev pub height_of : Nodes → ℕ
height_of n = length n.heights.items

-- pointer i of the indirect block over group j of the nodes at a height: holes behind as many as it
-- has
abbrev pub in_group : Nodes → ℕ → ℕ → ℕ → Pointer
in_group n m j i = if nat_lt i (fan_out n.layout) then node n m (fan_out n.layout * j + i) else Hole

-- what this block spells: where there is no height above, none
abbrev pub under : Nodes → ℕ → ℕ → ℕ → Pointer
under n m j i = if nat_lt (suc m) (height_of n) then in_group n m j i else Hole

-- what holds of each block under node j at a height
unfoldable pub AllUnder : Layout → (ℕ → Type 0) → ℕ → ℕ → Type 0
AllUnder layout P zero j = P j
AllUnder layout P (suc height) j =
    (i : ℕ) → i < fan_out layout → AllUnder layout P height (fan_out layout * j + i)

-- over node j at a height the blocks of a file are those that were settled, as high up, or there
-- are none
abbrev pub StaysUnder : Nodes → PlaceMap → ℕ → ℕ → Type 0
StaysUnder settled lowest height j =
    ((height < height_of settled) × AllUnder settled.layout (λ i. place_at lowest i ≡ node settled 0 i) height j)
    ⊎ AllUnder settled.layout (λ i. place_at lowest i ≡ Hole) height j

-- a file has fewer nodes at a height
abbrev pub MOST_NODES : ℕ
MOST_NODES = 4294967295

-- as many groups of nodes have an index
abbrev pub most_groups : Layout → ℕ
most_groups Plain = 4194304
most_groups Summed = 8388608

-- where block i of a file is settled, if it isn't cut off
abbrev pub kept_place : BlockTree → Nodes → ℕ → Pointer
kept_place t settled i = if nat_lt i t.kept then node settled 0 i else Hole

-- these are all nodes of a group at a height, and holes
abbrev pub IsEmptyGroup : Nodes → ℕ → ℕ → Type 0
IsEmptyGroup n m j = (i : ℕ) → i < fan_out n.layout → node n m (fan_out n.layout * j + i) ≡ Hole

-- over such a group there is no node
abbrev pub AreFull : Nodes → Type 0
AreFull n = (m j : ℕ) → IsEmptyGroup n m j → node n (suc m) j ≡ Hole

-- these are the nodes of what hangs from an inode
pub record AreNodesOf (n : Nodes) (h : Held) : Type 0 where
  pub places : (m i : ℕ) → h.place m i ≡ node n m i

-- the nodes at each height are held by groups of the layout
abbrev pub HaveLayout : Layout → Option PlaceMap → Type 0
HaveLayout layout (Some places) = places.layout ≡ layout
HaveLayout layout None = Unit {0}

abbrev pub AreAlike : Nodes → Type 0
AreAlike n = (m : ℕ) → HaveLayout n.layout (slice_get n.heights.items m)

-- all nodes of a file stay on a disk of so many blocks
abbrev pub AreWithin : ℕ → Nodes → Type 0
AreWithin blocks n = (m i : ℕ) → PointsBelow blocks (node n m i)

-- settled nodes as they are read: those at each height are of the layout, all stay on a disk of so
-- many blocks, and none is over holes alone
pub record AreSettledIn (blocks : ℕ) (n : Nodes) : Type 0 where
  pub alike : AreAlike n
  pub within : AreWithin blocks n
  pub full : AreFull n

-- at each height all nodes are among the first so many
abbrev pub AreShort : ℕ → Nodes → Type 0
AreShort count n = (m i : ℕ) → count ≤ i → node n m i ≡ Hole

-- a block stands at one of these nodes of one height, and not at the same of those
abbrev pub HasLeft : PlaceMap → (ℕ → Pointer) → ℕ → Type 0
HasLeft from to b = (i : ℕ) × (place_at from i ≡ Block b) × (to i ≡ Block b → ⊥)

-- the same among the nodes from one on and before another
abbrev pub HasLeftIn : ℕ → ℕ → PlaceMap → (ℕ → Pointer) → ℕ → Type 0
HasLeftIn start end from to b = (i : ℕ) × (start ≤ i) × (i < end) × (place_at from i ≡ Block b) × (to i ≡ Block b → ⊥)

-- i is one of these
abbrev pub IsAmong : List ℕ → ℕ → Type 0
IsAmong is i = (k : ℕ) × (k < length is) × (slice_index is k ≡ i)

-- they are all from one number on and before another
abbrev pub AreBetween : ℕ → ℕ → List ℕ → Type 0
AreBetween start end is = (k : ℕ) → k < length is → (start ≤ slice_index is k) × (slice_index is k < end)

-- the same among these nodes
abbrev pub HasLeftAmong : List ℕ → PlaceMap → (ℕ → Pointer) → ℕ → Type 0
HasLeftAmong is from to b = (k : ℕ) × (k < length is) × (place_at from (slice_index is k) ≡ Block b) × (to (slice_index is k) ≡ Block b → ⊥)

-- these are the changed blocks of a file behind the first and before another
pub record AreChanged (t : BlockTree) (end : ℕ) (is : List ℕ) : Type 0 where
  pub within : AreBetween 1 end is
  pub all : (i : ℕ) → 1 ≤ i → i < end → (IsAmong is i → ⊥) → IsChanged t i → ⊥

-- a block stands at one of these nodes, and not at the same of those
abbrev pub HasMoved : Nodes → Nodes → ℕ → Type 0
HasMoved from to b = (m : ℕ) × (i : ℕ) × (node from m i ≡ Block b) × (node to m i ≡ Block b → ⊥)

-- Nodes of one height were placed over settled ones, on a disk of so many blocks: each leads where
-- the settled one did, or to a block that was given out, and no two of these to one.
pub record ArePlacedAt (old new : Draft) (settled : ℕ → Pointer) (placed : PlaceMap) : Type 0 where
  pub within : AreBelow old.map.count placed
  pub from : (i b : ℕ) → place_at placed i ≡ Block b → (settled i ≡ Block b) ⊎ WasTaken old new b
  pub apart : (i j b : ℕ) → place_at placed i ≡ Block b → place_at placed j ≡ Block b
      → ((settled i ≡ Block b) ⊎ (settled j ≡ Block b)) ⊎ (i ≡ j)

-- the same of all nodes at some heights of a file: from one on and below another
pub record ArePlacedIn (least past : ℕ) (old new : Draft) (settled placed : Nodes) : Type 0 where
  pub within : (m i : ℕ) → least ≤ m → m < past → PointsBelow old.map.count (node placed m i)
  pub from : (m i b : ℕ) → least ≤ m → m < past → node placed m i ≡ Block b → (node settled m i ≡ Block b) ⊎ WasTaken old new b
  pub apart : (m i k j b : ℕ) → least ≤ m → m < past → least ≤ k → k < past → node placed m i ≡ Block b → node placed k j ≡ Block b
      → ((node settled m i ≡ Block b) ⊎ (node settled k j ≡ Block b)) ⊎ ((m ≡ k) × (i ≡ j))

-- and of all nodes of a file
pub record ArePlacedOver (old new : Draft) (settled placed : Nodes) : Type 0 where
  pub within : AreWithin old.map.count placed
  pub from : (m i b : ℕ) → node placed m i ≡ Block b → (node settled m i ≡ Block b) ⊎ WasTaken old new b
  pub apart : (m i k j b : ℕ) → node placed m i ≡ Block b → node placed k j ≡ Block b
      → ((node settled m i ≡ Block b) ⊎ (node settled k j ≡ Block b)) ⊎ ((m ≡ k) × (i ≡ j))

-- of the settled nodes of a file as many heights were read as its tree has, and past the nodes that
-- it counts there all are holes
pub record AreCounted (t : BlockTree) (n : Nodes) : Type 0 where
  pub layout : n.layout ≡ t.layout
  pub heights : height_of n ≡ suc t.depth
  pub end : (m i : ℕ) → nodes_at t.layout t.count m ≤ i → node n m i ≡ Hole

-- of a file's blocks from one on and before another, only one that is settled as a hole becomes a
-- hole, and none that is changed
pub record AreStored (first past : ℕ) (t : BlockTree) (settled : Nodes) (places : ℕ → Pointer) : Type 0 where
  pub holes : (i : ℕ) → first ≤ i → i < past → places i ≡ Hole → kept_place t settled i ≡ Hole
  pub changed : (i : ℕ) → first ≤ i → i < past → IsChanged t i → places i ≢ Hole

-- of a file's blocks behind the first and before one, those that aren't changed lie where the
-- settled ones do
abbrev pub AreKept : ℕ → BlockTree → Nodes → Nodes → Type 0
AreKept past t settled placed = (i : ℕ) → 1 ≤ i → i < past → (IsChanged t i → ⊥) → node placed 0 i ≡ node settled 0 i
