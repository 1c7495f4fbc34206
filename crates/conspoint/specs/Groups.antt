-- Nodes of a file and the indirect blocks over them.
use Rattle.std.specs.Prelude.{ℕ, ◌≡◌, ◌⊎◌, ◌+◌, ◌*◌, ◌<◌, List, length, nat_lt, if◌then◌else◌, slice_index_or}
use Rattle.layout.specs.Maps.{indirect_pointer}
use Rattle.layout.specs.Places.{Blocks}
use Rattle.layout.specs.Trees.{fan_out}
use Rattle.layout.specs.declared.geometry.TheConstants.{MOST_BLOCKS}
use Rattle.layout.specs.declared.TheConstants.{BLOCK_BYTES, BLOCK_POINTERS}
use Rattle.layout.specs.declared.pointer.Pointer.{Pointer}
use Rattle.layout.specs.declared.pointer.Pointer.TheVariants.{Hole, Block}
use Rattle.blocktree.specs.PlaceMaps.{AreBelow, place_at}
use Rattle.blocktree.specs.declared.place_map.PlaceMap.{PlaceMap}
use Rattle.conspoint.specs.declared.draft.Draft.{Draft}
use Rattle.conspoint.specs.Drafts.{WasTaken}

-- pointer i of these, a hole past their end
abbrev pub pointer_at : List Pointer → ℕ → Pointer
pointer_at pointers i = slice_index_or pointers i Hole

-- Of the nodes under one indirect block, as its 1,024 numbers, and the pointer over them, on a disk
-- e: all are as they were, or a block spells them, of which some is no hole, or all are holes.
pub data IsGroup (e : Blocks) (settled : Pointer) (old new : ℕ → Pointer) (over : Pointer) : Type 0 where
  keeps : (is : over ≡ settled) → (same : (i : ℕ) → i < BLOCK_POINTERS → new i ≡ old i)
      → IsGroup e settled old new over
  spells : (block : ℕ) → (is : over ≡ Block block)
      → (size : length (e block) ≡ BLOCK_BYTES)
      → (under : (i : ℕ) → i < BLOCK_POINTERS → indirect_pointer (e block) i ≡ new i)
      → (some : (i : ℕ) × (i < BLOCK_POINTERS) × (new i ≡ Hole → ⊥))
      → IsGroup e settled old new over
  none : (is : over ≡ Hole) → (under : (i : ℕ) → i < BLOCK_POINTERS → new i ≡ Hole)
      → IsGroup e settled old new over

-- The pointer over the nodes of a group is a hole where all of them are, and where none moved it is
-- as it was.
pub record Follows (settled : Pointer) (old new : ℕ → Pointer) (over : Pointer) : Type 0 where
  pub none : ((i : ℕ) → i < BLOCK_POINTERS → new i ≡ Hole) → over ≡ Hole
  pub same : ((i : ℕ) → i < BLOCK_POINTERS → new i ≡ old i) → (over ≡ settled) ⊎ ((i : ℕ) → i < BLOCK_POINTERS → new i ≡ Hole)

-- the nodes of group j, and holes behind as many as an indirect block has pointers
abbrev pub group : PlaceMap → ℕ → ℕ → Pointer
group nodes j i =
    if nat_lt i (fan_out nodes.layout) then place_at nodes (fan_out nodes.layout * j + i) else Hole

-- a pointer is as it was, or leads to a block that was given out since
abbrev pub ComesFrom : Draft → Draft → Pointer → Pointer → Type 0
ComesFrom old new settled p = (b : ℕ) → p ≡ Block b → (p ≡ settled) ⊎ WasTaken old new b

-- nodes that had settled pointers have these now
pub record ArePlaced (old new : Draft) (settled nodes : PlaceMap) : Type 0 where
  pub within : AreBelow MOST_BLOCKS nodes
  pub from : (i : ℕ) → ComesFrom old new (place_at settled i) (place_at nodes i)
  -- no two that moved have one block
  pub apart : (i j b : ℕ) → i < j → place_at nodes i ≡ Block b → place_at nodes j ≡ Block b
      → (place_at nodes i ≡ place_at settled i) ⊎ (place_at nodes j ≡ place_at settled j)
