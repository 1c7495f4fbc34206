-- The block map's own file, which a consistency point stores with all others: where its nodes
-- stand, and what its inode leads to.
use Rattle.std.specs.Prelude.{ℕ, ◌≡◌, ◌≢◌, ◌⊎◌, ◌↔◌, ◌+◌, ◌/◌, ◌%◌, ◌<◌, List, length, nat_le, if◌then◌else◌, Bool, true, false}
use Rattle.std.specs.Int.{bit_at}
use Rattle.blockmap.specs.Bits.{HasBit}
use Rattle.blockmap.specs.Maps.{HoldsPart, IsTouched, entry_at, settled_at}
use Rattle.blockmap.specs.Parts.{Part}
use Rattle.blockmap.specs.declared.map.BlockMap.{BlockMap}
use Rattle.layout.specs.Limits.{Sizes, AreSizes}
use Rattle.layout.specs.Maps.{map_entry}
use Rattle.layout.specs.Places.{Blocks}
use Rattle.layout.specs.Trees.{level_of}
use Rattle.layout.specs.declared.TheConstants.{BLOCK_BYTES, BODY_POINTERS}
use Rattle.layout.specs.declared.inode.Inode.{Inode}
use Rattle.layout.specs.declared.kind.Kind.TheVariants as kinds
use Rattle.layout.specs.declared.trees.Layout.TheVariants.{Plain}
use Rattle.layout.specs.declared.pointer.Pointer.{Pointer}
use Rattle.layout.specs.declared.pointer.Pointer.TheVariants.{Hole, Block}
use Rattle.images.specs.Nodes.{held, Names, IsOnce, Agrees, file_block}
use Rattle.images.specs.Soundness.{IsSoundFile, HasNoHole}
use Rattle.conspoint.specs.declared.draft.Draft.{Draft}
use Rattle.conspoint.specs.Drafts.{OnEach, WasTaken}
use Rattle.conspoint.specs.Groups.{pointer_at}

-- the nodes of a map of so many blocks: its blocks, and behind them the indirect block over them
-- where the inode has no room for their pointers
abbrev pub map_nodes : ℕ → ℕ
map_nodes blocks = if nat_le blocks BODY_POINTERS then blocks else blocks + 1

-- a node's new place, or the settled one where it has none
abbrev pub or_settled : Pointer → Pointer → Pointer
or_settled Hole settled = settled
or_settled (Block b) settled = Block b

-- node k after the point
abbrev pub node_at : List Pointer → List Pointer → ℕ → Pointer
node_at settled places k = or_settled (pointer_at places k) (pointer_at settled k)

-- b is where one of the first n of these nodes stands, one that has a new place
abbrev pub IsOfMoved : List Pointer → List Pointer → ℕ → ℕ → Type 0
IsOfMoved nodes places n b =
    (k : ℕ) × (k < n) × (pointer_at places k ≢ Hole) × (pointer_at nodes k ≡ Block b)

-- these bytes are block j of the map with these entries, as it is stored
pub record StoresPart (parts : List Part) (j : ℕ) (bytes : List ℕ) : Type 0 where
  pub size : length bytes ≡ BLOCK_BYTES
  pub entries : HoldsPart parts j bytes

-- the next consistency point stores each block of the map
abbrev pub AreTouched : List Part → Type 0
AreTouched parts = (j : ℕ) → j < length parts → IsTouched parts j

-- The disk has the settled entries under this inode, in its grammar, and its nodes stand here. A
-- block that the next consistency point stores anew may be missing, or have other entries: an empty
-- file is one whose blocks are all stored then.
pub record IsSettledMap (s : Sizes) (d : Blocks) (f : Inode) (map : BlockMap) (nodes : List Pointer) : Type 0 where
  pub sizes : AreSizes s
  pub plain : s.layout ≡ Plain
  pub blocks : map.count ≡ s.blocks
  pub kind : f.kind ≡ kinds.BlockMap
  pub sound : IsSoundFile s (held d f)
  pub no_hole : (k : ℕ) → k < length map.parts.items → (IsTouched map.parts.items k → ⊥)
      → (held d f).place 0 k ≢ Hole
  pub once : IsOnce (held d f)
  pub entries : (b : ℕ) → (b < map.count → IsTouched map.parts.items (b / 1024) → ⊥)
      → settled_at map.parts.items b ≡ map_entry (file_block (held d f) (b / 1024)) (b % 1024)
  -- none of its own blocks is free
  pub used : (b : ℕ) → Names (held d f) b → settled_at map.parts.items b ≢ 0
  pub lowest : (k : ℕ) → k < length map.parts.items → pointer_at nodes k ≡ (held d f).place 0 k
  pub over : level_of f.layout f.size ≡ 2 → pointer_at nodes (length map.parts.items) ≡ (held d f).place 1 0

-- The disk e has the map under this inode, in its grammar, with these entries. Each of its nodes
-- stands where that of the settled map does, or in a taken block; of the blocks of the settled one,
-- those are freed that it doesn't name.
pub record IsMapOn (s : Sizes) (d e : Blocks) (old new : Inode) (taken freed : ℕ → Bool) (entry_of : ℕ → ℕ) : Type 0 where
  pub kind : new.kind ≡ kinds.BlockMap
  pub entries : (b : ℕ) → map_entry (file_block (held e new) (b / 1024)) (b % 1024) ≡ entry_of b
  pub moves : (m i b : ℕ) → (held e new).place m i ≡ Block b → ((held d old).place m i ≡ Block b) ⊎ (taken b ≡ true)
  pub named : (b : ℕ) → taken b ≡ true → Names (held e new) b
  pub stays : (b : ℕ) → Names (held d old) b → Names (held e new) b ⊎ (freed b ≡ true)
  pub freed_are : (b : ℕ) → freed b ≡ true → Names (held d old) b × (Names (held e new) b → ⊥)
  pub once : IsOnce (held e new)
  pub sound : IsSoundFile s (held e new)
  pub no_hole : HasNoHole (held e new)

-- The map's file is planned: the blocks that were taken for it, and those that are freed, are
-- marked, and nothing else; and each disk that has the planned blocks and those of the settled map
-- has it under this inode.
pub record PlansMap (before after : Draft) (settled : List Pointer) (f : Inode) : Type 0 where
  pub taken : ℕ → Bool
  pub freed : ℕ → Bool
  pub was_taken : (b : ℕ) → taken b ≡ true → WasTaken before after b
  pub active : (b : ℕ) → HasBit 0 (entry_at after.map.parts.items b)
      ↔ ((HasBit 0 (entry_at before.map.parts.items b) × (freed b ≡ false)) ⊎ (taken b ≡ true))
  pub others : (b i : ℕ) → i ≢ 0
      → bit_at (entry_at after.map.parts.items b) i ≡ bit_at (entry_at before.map.parts.items b) i
  pub stands : OnEach after (λ e. (s : Sizes) (d : Blocks) (old : Inode)
      → IsSettledMap s d old before.map settled → Agrees (Names (held d old)) d e
      → IsMapOn s d e old f taken freed (entry_at after.map.parts.items))
  -- where each block of the map is to be stored, so is all of its file
  pub anew : AreTouched before.map.parts.items → OnEach after (λ e. (s : Sizes) (d : Blocks) (old : Inode)
      → IsSettledMap s d old before.map settled → Agrees (Names (held d old)) d e
      → (b : ℕ) → Names (held e f) b → taken b ≡ true)
