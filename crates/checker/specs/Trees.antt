-- The trees that a check looks at.
use Rattle.std.specs.Prelude.{ℕ, ◌≡◌, ◌≢◌, ◌↔◌, ◌⊎◌, ◌-◌, ◌*◌, ◌<◌, ◌≤◌, List, ◌∷◌, Contains, drop, length, slice_get, slice_index, slice_index_or, Option, Some, None}
use Rattle.layout.specs.Bytes.{zeros}
use Rattle.layout.specs.Inode.{IsInode}
use Rattle.layout.specs.Maps.{IsTaken}
use Rattle.layout.specs.Root.{IsRoot}
use Rattle.layout.specs.Places.{Blocks}
use Rattle.layout.specs.Limits.{Sizes}
use Rattle.layout.specs.Version.{greatest_under}
use Rattle.layout.specs.declared.TheConstants.{BLOCK_BYTES, INODE_BYTES, INODES_PER_BLOCK}
use Rattle.layout.specs.declared.kind.Kind.TheVariants.{Free, InodeFile}
use Rattle.layout.specs.SnapRoot.{Snapshot, snapshot_in}
use Rattle.layout.specs.declared.inode.Inode.{Inode}
use Rattle.layout.specs.declared.pointer.Pointer.{Pointer}
use Rattle.layout.specs.declared.pointer.Pointer.TheVariants.{Block, Hole}
use Rattle.layout.specs.declared.root.Root.{Root}
use Rattle.layout.specs.declared.trees.Layout.{Layout}
use Rattle.model.specs.declared.limits.TheConstants.{FIRST_NUMBER}
use Rattle.images.specs.BlockMap.{HasBit, NamesOnce}
use Rattle.images.specs.Contents.{content_bytes, content_of}
use Rattle.images.specs.Faults.{IsFaultless, IsMapGrammar, IsTreeGrammar, MapsWithin}
use Rattle.images.specs.Nodes.{Held, IsOnce, Names, file_block}
use Rattle.images.specs.Roots.{HeldTree, Reach, inode_bytes_at, whole}
use Rattle.images.specs.Soundness.{IsFileGrammar, IsReadable, IsWithin, MapsNumbers}
use Rattle.loading.specs.Images.{IsFileOfInode}
use Rattle.loading.specs.InodeBlocks.{IsInodeAt}
use Rattle.loading.specs.Snapshots.{AreApartAt, IsSnapshotAt}
use Rattle.loading.specs.Snapshots as stored
use Rattle.checker.specs.Findings.{HasTree, IsFindingUnder, IsNamedTree, IsTreeFinding, StandsIn, name_bytes, tree_in}
use Rattle.checker.specs.Nodes.{SharesNone}
use Rattle.checker.specs.declared.nodes.Shared.{Shared}
use Rattle.checker.specs.declared.fault.Fault.{Fault}
use Rattle.checker.specs.declared.fault.FileNode.{FileNode}
use Rattle.checker.specs.declared.fault.SnapshotName.{SnapshotName}
use Rattle.checker.specs.declared.fault.TreeName.TheVariants.{Image}
use Rattle.checker.specs.declared.fault.Fault.TheVariants as faults
use Rattle.checker.specs.declared.tree.Tree.{Tree}

-- what memory has of a tree of a root: its number, its name, the inode of its inode file, and that
-- file
pub record IsTreeOf (disk : Blocks) (r : Root) (t : Tree) : Type 0 where
  pub has : HasTree r t.plane
  pub named : IsNamedTree r (whole disk r) t.name t.plane
  pub top : (tree_in (whole disk r) t.plane 0).inode ≡ t.top
  pub fits : IsInode r.geometry t.top
  pub kind : t.top.kind ≡ InodeFile
  pub file : IsFileOfInode t.top t.file

-- the root of a disk of these sizes, of which so many blocks are read
pub record IsRootOf (r : Root) (s : Sizes) (blocks : ℕ) : Type 0 where
  pub root : IsRoot r
  pub geometry : r.geometry ≡ s
  pub count : blocks ≡ r.geometry.blocks

-- a tree of it, which is in its grammar
pub record IsTreeAt (disk : Blocks) (r : Root) (s : Sizes) (blocks : ℕ) (t : Tree) : Type 0 where
  pub over : IsRootOf r s blocks
  pub tree : IsTreeOf disk r t
  pub grammar : IsTreeGrammar r.geometry (tree_in (whole disk r) t.plane)

-- a tree names a block twice: this node stands in it, and another one
pub record SharesBlock (t : HeldTree) (s : Shared) : Type 0 where
  pub first : FileNode
  pub there : StandsIn t first s.block
  pub again : StandsIn t s.second s.block
  pub other : first ≢ s.second

-- it is this node
abbrev pub IsNode : FileNode → ℕ → ℕ → ℕ → Type 0
IsNode node number height index = (node.number ≡ number) × (node.height ≡ height) × (node.index ≡ index)

-- another node of a number's file than the one that is told stands in a block
abbrev pub IsOwner : Shared → ℕ → Held → FileNode → Type 0
IsOwner s number h node = (node.number ≡ number) × (h.place node.height node.index ≡ Block s.block) × (node ≢ s.second)

-- none does at a height
abbrev pub IsAloneAt : Shared → ℕ → Held → ℕ → Type 0
IsAloneAt s number h m = (i : ℕ) → h.place m i ≡ Block s.block → IsNode s.second number m i

-- no fault of a tree is known, or there is this one
abbrev pub HasFaultOrNone : Blocks → Root → Tree → Type 0
HasFaultOrNone disk r t = (fault : Fault) → t.fault ≡ Some fault → IsTreeFinding r (tree_in (whole disk r) t.plane) fault

-- a tree is out of its grammar, as far as is known
abbrev pub IsOut : Option Fault → Type 0
IsOut None = ⊥
IsOut (Some (faults.Tree found)) = Unit {0}
IsOut (Some fault) = ⊥

-- the maps of a tree are in their grammar, and these are the bytes of its inode map, where their
-- files are in theirs
pub record HasMaps (s : Sizes) (t : HeldTree) (numbers : List ℕ) : Type 0 where
  pub inode_map : IsFileGrammar s (t 1) → IsMapGrammar (t 1)
  pub block_map : IsFileGrammar s (t 2) → IsMapGrammar (t 2)
  pub readable : IsFileGrammar s (t 1) → IsReadable (t 1)
  pub bytes_are : IsFileGrammar s (t 1) → numbers ≡ content_bytes (content_of (t 1))
  pub within : MapsWithin s.inodes numbers

-- a number was looked at, where so many places of the inode files were: number 0 stands for the
-- inode file, which comes first
abbrev pub IsBefore : ℕ → ℕ → Type 0
IsBefore places m = (m ≡ 0) ⊎ (m < places)

-- the first so many places of a tree's inode file are inodes in their grammar, with the indirect
-- blocks over their files, and these are no larger than a version allows; behind those of the first
-- so many of its blocks zeros stand
pub record HasInodes (version : ℕ) (s : Sizes) (t : HeldTree) (blocks places : ℕ) : Type 0 where
  pub files : (m : ℕ) → IsBefore places m → IsFileGrammar s (t m)
  pub within : (m : ℕ) → IsBefore places m → (t m).inode.size ≤ greatest_under version
  pub spelled : (m : ℕ) → m < places → IsInodeAt version s m (inode_bytes_at (file_block (t 0)) m)
  pub behind : (i : ℕ) → i < blocks
      → drop (INODE_BYTES * INODES_PER_BLOCK) (file_block (t 0) i)
      ≡ zeros (BLOCK_BYTES - INODE_BYTES * INODES_PER_BLOCK)

-- no block is named twice by the files that were looked at, and those that they name are marked for
-- tree k
pub record HasMarked (t : HeldTree) (places k : ℕ) (marks : List ℕ) : Type 0 where
  pub each : (m : ℕ) → IsBefore places m → IsOnce (t m)
  pub apart : (m l b : ℕ) → IsBefore places m → IsBefore places l
      → Names (t m) b → Names (t l) b → m ≡ l
  pub marked : (b : ℕ) → HasBit k (slice_index marks b) ↔ ((m : ℕ) × IsBefore places m × Names (t m) b)

-- the inode map says of the first so many numbers whether they are in use
abbrev pub AreMapped : HeldTree → List ℕ → ℕ → Type 0
AreMapped t numbers places =
    (m : ℕ) → m < places → IsTaken numbers m ↔ ((m < FIRST_NUMBER) ⊎ ((t m).inode.kind ≡ Free → ⊥))

-- What is known of a tree when so many blocks of the inode files, and so many places, were looked
-- at.
pub record IsSeenTo (disk : Blocks) (r : Root) (blocks places : ℕ) (marks : List ℕ) (shared : List (Option Shared)) (t : Tree) : Type 0 where
  pub tree : IsTreeOf disk r t
  pub fault : HasFaultOrNone disk r t
  pub maps : (IsOut t.fault → ⊥) → HasMaps r.geometry (tree_in (whole disk r) t.plane) t.numbers.items
  pub inodes : (IsOut t.fault → ⊥) → HasInodes r.version r.geometry (tree_in (whole disk r) t.plane) blocks places
  pub marked : (IsOut t.fault → ⊥) → SharesNone shared t.plane
      → HasMarked (tree_in (whole disk r) t.plane) places t.plane marks
  pub shared_is : (IsOut t.fault → ⊥) → (s : Shared) → slice_index_or shared t.plane None ≡ Some s
      → SharesBlock (tree_in (whole disk r) t.plane) s
  pub mapped : t.fault ≡ None → AreMapped (tree_in (whole disk r) t.plane) t.numbers.items places

-- these are the trees of a root, each once, its own before those of its snapshots, and so much is
-- known of each
pub record AreTrees (r : Root) (trees : List Tree) (NumberTable : Tree → Type 0) : Type 0 where
  pub first : (t : Tree) (rest : List Tree) → trees ≡ t ∷ rest → t.plane ≡ 0
  pub some : 1 ≤ length trees
  pub each : (t : Tree) → Contains trees t → NumberTable t
  pub all : (k : ℕ) → HasTree r k → (t : Tree) × Contains trees t × (t.plane ≡ k)
  pub once : (i j : ℕ) (t q : Tree) → slice_get trees i ≡ Some t → slice_get trees j ≡ Some q
      → t.plane ≡ q.plane → i ≡ j

-- all of a tree is in its grammar and it names no block twice, as far as is known
abbrev pub IsApart : Option Fault → Type 0
IsApart (Some (faults.Tree found)) = ⊥
IsApart (Some (faults.Shared block first second)) = ⊥
IsApart fault = Unit {0}

-- all numbers of a tree were looked at, and what it names twice is told: what is left are its
-- directories, links and the block map
pub record IsSeen (disk : Blocks) (r : Root) (marks : List ℕ) (t : Tree) : Type 0 where
  pub tree : IsTreeOf disk r t
  pub fault : HasFaultOrNone disk r t
  pub grammar : (IsOut t.fault → ⊥) → IsTreeGrammar r.geometry (tree_in (whole disk r) t.plane)
  pub within : (IsOut t.fault → ⊥) → IsWithin r.version (tree_in (whole disk r) t.plane)
  pub once : IsApart t.fault → NamesOnce (tree_in (whole disk r) t.plane)
  pub marked : IsApart t.fault → (b : ℕ) → HasBit t.plane (slice_index marks b) ↔ Reach (tree_in (whole disk r) t.plane) b
  pub mapped : t.fault ≡ None → MapsNumbers (tree_in (whole disk r) t.plane)

-- and nothing more is to be looked for: without a fault, the tree has none
abbrev pub HasEnded : Blocks → Root → List ℕ → Tree → Type 0
HasEnded disk r marks t = IsSeen disk r marks t × (t.fault ≡ None → IsFaultless r.geometry (tree_in (whole disk r) t.plane))

-- what a slot of a root was found to hold: a snapshot's root block in its grammar, of no name and
-- order of one in a slot before it; or a fault
abbrev pub TellsSlot : Blocks → Root → ℕ → Option Fault → Type 0
TellsSlot disk r k None =
    IsSnapshotAt r.geometry r.generation disk (slice_index_or r.snapshots k Hole)
    × ((l : ℕ) → l < k
    → AreApartAt r.geometry.layout disk (slice_index_or r.snapshots l Hole)
    (slice_index_or r.snapshots k Hole))
TellsSlot disk r k (Some fault) = (nvram : List ℕ) → IsFindingUnder r (whole disk r) nvram Image fault

-- the name of a snapshot and the inode of its inode file, where one stands at a pointer in an image
-- of this layout
abbrev pub TellsSnapshot : Layout → Blocks → Pointer → Option (SnapshotName × Inode) → Type 0
TellsSnapshot layout disk Hole found = found ≡ None
TellsSnapshot layout disk (Block b) None = (s : Snapshot) → stored.IsRootOf layout s (disk b) → ⊥
TellsSnapshot layout disk (Block b) (Some found) =
    (s : Snapshot) × (snapshot_in layout (disk b) ≡ Some s)
    × (s.name ≡ name_bytes found.0) × (s.inode_file ≡ found.1)

-- a tree's inode file and maps were read
pub record IsOpened (disk : Blocks) (r : Root) (marks : List ℕ) (shared : List (Option Shared)) (t : Tree) : Type 0 where
  pub maps : HasMaps r.geometry (tree_in (whole disk r) t.plane) t.numbers.items
  pub inodes : HasInodes r.version r.geometry (tree_in (whole disk r) t.plane) 0 0
  pub marked : SharesNone shared t.plane → HasMarked (tree_in (whole disk r) t.plane) 0 t.plane marks
  pub shared_is : (s : Shared) → slice_index_or shared t.plane None ≡ Some s
      → SharesBlock (tree_in (whole disk r) t.plane) s
