-- The trees and a block of each one's inode file, side by side.
use Rattle.std.specs.Prelude.{ℕ, ◌≡◌, ◌≢◌, ◌↔◌, ◌⊎◌, ◌+◌, ◌*◌, ◌<◌, All, List, [], length, map, slice_get, slice_index_or, Option, Some, Bool, IsTrue}
use Rattle.layout.specs.Maps.{IsTaken}
use Rattle.layout.specs.Places.{Blocks, pointed}
use Rattle.layout.specs.declared.TheConstants.{INODES_PER_BLOCK}
use Rattle.layout.specs.declared.kind.Kind.{Kind}
use Rattle.layout.specs.declared.kind.Kind.TheVariants.{Free}
use Rattle.layout.specs.declared.pointer.Pointer.{Pointer}
use Rattle.layout.specs.declared.root.Root.{Root}
use Rattle.model.specs.declared.limits.TheConstants.{FIRST_NUMBER}
use Rattle.blocktree.specs.PlaceMaps.{AreBelow, place_at}
use Rattle.blocktree.specs.Trees.{AreSound}
use Rattle.blocktree.specs.declared.place_map.PlaceMap.{PlaceMap}
use Rattle.images.specs.BlockMap.{HasBit}
use Rattle.images.specs.Nodes.{file_block}
use Rattle.images.specs.Roots.{inode_bytes_at, inode_part, whole}
use Rattle.images.specs.Soundness.{IsFileGrammar}
use Rattle.checker.specs.Findings.{first_fault, tree_in}
use Rattle.checker.specs.Nodes.{StaysFor}
use Rattle.checker.specs.Tables.{ArePlaces}
use Rattle.checker.specs.Trees.{AreTrees, IsOut, IsSeenTo}
use Rattle.checker.specs.declared.fault.Fault.{Fault}
use Rattle.checker.specs.declared.fault.Fault.TheVariants.{InodeMap}
use Rattle.checker.specs.declared.nodes.Shared.{Shared}
use Rattle.checker.specs.declared.rows.Row.{Row}
use Rattle.checker.specs.declared.rows.Rows.{Rows}
use Rattle.checker.specs.declared.tree.Tree.{Tree}

-- the tree that stands at a place of a list is of this number
abbrev pub PlaneAt : List Tree → ℕ → ℕ → Type 0
PlaneAt trees i k = (t : Tree) × (slice_get trees i ≡ Some t) × (t.plane ≡ k)

-- what is known of all trees of a root, when so many blocks of the inode files were looked at
abbrev pub AreSeenTo : Blocks → Root → ℕ → List ℕ → List (Option Shared) → List Tree → Type 0
AreSeenTo disk r blocks marks shared trees =
    AreTrees r trees (IsSeenTo disk r blocks (INODES_PER_BLOCK * blocks) marks shared)

-- the same within a block, before the bytes behind its inodes are looked at
abbrev pub AreSeenInBlock : Blocks → Root → ℕ → ℕ → List ℕ → List (Option Shared) → List Tree → Type 0
AreSeenInBlock disk r i places marks shared trees =
    AreTrees r trees (IsSeenTo disk r i (INODES_PER_BLOCK * i + places) marks shared)

-- the trees are the same but for their faults
pub record KeepsTrees (old new : List Tree) : Type 0 where
  pub length_is : length new ≡ length old
  pub same : (i : ℕ) (t q : Tree) → slice_get old i ≡ Some t → slice_get new i ≡ Some q
      → record t { fault = q.fault } ≡ q

-- trees are the same but for their faults, and nothing changed for others than these
pub record MarksTrees (old new : List Tree) (marks more : List ℕ) (before after : List (Option Shared)) : Type 0 where
  pub length_is : length more ≡ length marks
  pub trees : KeepsTrees old new
  pub others : (k : ℕ) → ((i : ℕ) → PlaneAt old i k → ⊥) → StaysFor k marks more before after

-- none of these places is past a disk of so many blocks
abbrev pub AreAllBelow : ℕ → List PlaceMap → Type 0
AreAllBelow blocks places = (l : ℕ) (p : PlaceMap) → slice_get places l ≡ Some p → AreBelow blocks p

-- they are those of the blocks of the trees' inode files, where the indirect blocks over these are
-- in their grammar
abbrev pub ArePlacesOfTrees : ℕ → Blocks → List Tree → List PlaceMap → Type 0
ArePlacesOfTrees blocks disk trees places =
    (l : ℕ) (t : Tree) (p : PlaceMap) → slice_get trees l ≡ Some t → slice_get places l ≡ Some p
    → AreSound blocks disk t.file.tree → ArePlaces disk t.file.tree p

-- block i of a tree's inode file is at this pointer, where that file is in its grammar
abbrev pub LeadsToRow : Blocks → Root → ℕ → Tree → Pointer → Type 0
LeadsToRow disk r i t pointer =
    IsFileGrammar r.geometry (tree_in (whole disk r) t.plane 0)
    → pointer ≡ (tree_in (whole disk r) t.plane 0).place 0 i

-- so are all of its blocks
abbrev pub LeadsToRows : Blocks → Root → Tree → PlaceMap → Type 0
LeadsToRows disk r t places = (i : ℕ) → LeadsToRow disk r i t (place_at places i)

-- the bytes of one of the blocks that were read
abbrev pub block_in : List Row → ℕ → List ℕ
block_in blocks w = slice_index_or (map (λ r. r.block) blocks) w []

-- those of the blocks that these numbers tell
unfoldable pub picked : List Row → List ℕ → List (List ℕ)
picked blocks which = map (block_in blocks) which

-- the block of each tree
abbrev pub rows_of : Rows → List (List ℕ)
rows_of rows = picked rows.blocks.items rows.which.items

-- the last tree's, where one more was added
abbrev pub row_added : Rows → Rows → List ℕ
row_added old new = slice_index_or (rows_of new) (length (rows_of old)) []

-- each block is what stands at its place
abbrev pub AreReadAt : Blocks → Rows → Type 0
AreReadAt disk rows = All (λ r. r.block ≡ pointed disk r.place) rows.blocks.items

-- block i of the inode file of each tree that isn't out of its grammar
pub record AreRows (disk : Blocks) (r : Root) (i : ℕ) (trees : List Tree) (rows : List (List ℕ)) : Type 0 where
  pub length_is : length rows ≡ length trees
  pub each : (l : ℕ) (t : Tree) → slice_get trees l ≡ Some t → (IsOut t.fault → ⊥)
      → slice_index_or rows l (file_block (tree_in (whole disk r) t.plane 0) i) ≡ file_block (tree_in (whole disk r) t.plane 0) i

-- the bits are those of the k-th tree, and of trees behind it that have the same inode at a place
abbrev pub AreTwins : List Tree → List (List ℕ) → ℕ → ℕ → ℕ → Type 0
AreTwins trees rows k place bits =
    (plane : ℕ) → HasBit plane bits
    ↔ ((l : ℕ) × (t : Tree) × (slice_get trees l ≡ Some t) × (t.plane ≡ plane)
    × ((l ≡ k) ⊎ ((k < l) × (IsOut t.fault → ⊥)
    × (inode_part (slice_index_or rows l []) place ≡ inode_part (slice_index_or rows k []) place))))

-- each tree of these bits has a fault more
abbrev pub AddsToEach : ℕ → Fault → List Tree → List Tree → Type 0
AddsToEach bits fault old new =
    (i : ℕ) (t q : Tree) → slice_get old i ≡ Some t → slice_get new i ≡ Some q
    → (HasBit t.plane bits → q.fault ≡ Some (first_fault t.fault fault))
    × ((HasBit t.plane bits → ⊥) → q ≡ t)

-- an inode of this kind is told by an inode map
abbrev pub IsMappedAs : ℕ → Kind → List ℕ → Type 0
IsMappedAs number kind numbers = IsTaken numbers number ↔ ((number < FIRST_NUMBER) ⊎ (kind ≢ Free))

-- each tree of these bits whose inode map says otherwise has a fault more
abbrev pub ComparesBits : ℕ → Kind → ℕ → List Tree → List Tree → Type 0
ComparesBits number kind bits old new =
    (i : ℕ) (t q : Tree) → slice_get old i ≡ Some t → slice_get new i ≡ Some q
    → ((q ≡ t) × (HasBit t.plane bits → (IsOut t.fault → ⊥) → IsMappedAs number kind t.numbers.items))
    ⊎ (HasBit t.plane bits × (IsMappedAs number kind t.numbers.items → ⊥) × ((taken : Bool)
    × (IsTrue taken ↔ IsTaken t.numbers.items number) × (q.fault ≡ Some (first_fault t.fault (InodeMap number taken)))))

-- of the trees of these bits, whose inode files have these bytes at a number, what was known before
-- is known after it
abbrev pub SeesInode : Blocks → Root → ℕ → List ℕ → ℕ → (Tree → Type 0) → (Tree → Type 0) → List Tree → List Tree → Type 0
SeesInode disk r bits bytes number Before After old new =
    (l : ℕ) (t q : Tree) → slice_get old l ≡ Some t → slice_get new l ≡ Some q → HasBit t.plane bits
    → (IsOut t.fault → ⊥) → bytes ≡ inode_bytes_at (file_block (tree_in (whole disk r) t.plane 0)) number
    → Before t → After q
