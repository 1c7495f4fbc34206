-- Marks of the nodes of files.
use Rattle.std.specs.Prelude.{ℕ, suc, ◌≡◌, ◌↔◌, ◌⊎◌, ◌-◌, ◌*◌, ◌/◌, ◌%◌, ◌^◌, ◌<◌, ◌≤◌, List, length, slice_index, slice_index_or, Option, Some, None, Result, Ok, Err}
use Rattle.layout.specs.Maps.{IsIndirectBlock}
use Rattle.layout.specs.Places.{Blocks, follow}
use Rattle.layout.specs.Limits.{Sizes}
use Rattle.layout.specs.Trees.{fan_out}
use Rattle.layout.specs.declared.inode.Inode.{Inode}
use Rattle.layout.specs.declared.pointer.Pointer.TheVariants.{Block}
use Rattle.layout.specs.declared.trees.Layout.{Layout}
use Rattle.blocktree.specs.Names.{nodes_at}
use Rattle.images.specs.BlockMap.{HasBit}
use Rattle.images.specs.Soundness.{IsFileGrammar}
use Rattle.images.specs.Nodes.{Held, held}
use Rattle.checker.specs.declared.error.CheckEnd.{CheckEnd}
use Rattle.checker.specs.declared.error.CheckEnd.TheVariants as halts
use Rattle.checker.specs.declared.fault.Fault.TheVariants as faults
use Rattle.checker.specs.declared.fault.FileNode.{FileNode}
use Rattle.checker.specs.declared.fault.TreeFault.{TreeFault}
use Rattle.checker.specs.declared.nodes.Shared.{Shared}

-- node i at height m is the one at this height and index, or stands under it
abbrev pub IsUnder : Layout → ℕ → ℕ → ℕ → ℕ → Type 0
IsUnder layout height index m i = (m ≤ height) × (i / fan_out layout ^ (height - m) ≡ index)

-- node i at height m is one of those at a height from one to another, or stands under them
abbrev pub IsAmong : Layout → ℕ → ℕ → ℕ → ℕ → ℕ → Type 0
IsAmong layout height low high m i =
    (m ≤ height) × (low ≤ i / fan_out layout ^ (height - m)) × (i / fan_out layout ^ (height - m) < high)

-- it is this node
abbrev pub IsAt : FileNode → ℕ → ℕ → Type 0
IsAt node m i = (m ≡ node.height) × (i ≡ node.index)

-- all nodes of a file
abbrev pub IsAny : ℕ → ℕ → Type 0
IsAny m i = Unit {0}

-- The nodes of a file that are told by S were marked for tree k, from these marks to those: none of
-- their blocks was marked for it before, and none has two of them.
pub record MarksNodes (h : Held) (S : ℕ → ℕ → Type 0) (k : ℕ) (old new : List ℕ) : Type 0 where
  pub marks : (b : ℕ) → HasBit k (slice_index new b)
      ↔ (HasBit k (slice_index old b) ⊎ ((m : ℕ) × (i : ℕ) × S m i × (h.place m i ≡ Block b)))
  pub apart : (m i b : ℕ) → S m i → h.place m i ≡ Block b → HasBit k (slice_index old b) → ⊥
  pub once : (m i n j b : ℕ) → S m i → S n j → h.place m i ≡ Block b → h.place n j ≡ Block b
      → (m ≡ n) × (i ≡ j)

-- tree k names no block twice so far
abbrev pub SharesNone : List (Option Shared) → ℕ → Type 0
SharesNone shared k = slice_index_or shared k None ≡ None

-- nothing changed for tree k
pub record StaysFor (k : ℕ) (old new : List ℕ) (before after : List (Option Shared)) : Type 0 where
  pub marks : (b : ℕ) → HasBit k (slice_index new b) ↔ HasBit k (slice_index old b)
  pub shared : slice_index_or after k None ≡ slice_index_or before k None

-- the first block that a tree names twice stays so
abbrev pub KeepsShared : List (Option Shared) → List (Option Shared) → Type 0
KeepsShared before after =
    (k : ℕ) (s : Shared) → slice_index_or before k None ≡ Some s → slice_index_or after k None ≡ Some s

-- What is done for tree k, of which a node of a number's file was looked at, and all below it.
pub record LooksUnder (h : Held) (S : ℕ → ℕ → Type 0) (k number : ℕ) (old new : List ℕ) (before after : List (Option Shared)) : Type 0 where
  -- where it names nothing twice, its blocks are marked
  pub marked : SharesNone after k → MarksNodes h S k old new
  -- where it does now, and didn't before, one block is: by the node that is told, and by a node
  -- before it
  pub shared : SharesNone before k → (s : Shared) → slice_index_or after k None ≡ Some s
      → (s.second.number ≡ number) × S s.second.height s.second.index
      × (h.place s.second.height s.second.index ≡ Block s.block)
      × (HasBit k (slice_index old s.block)
      ⊎ ((m : ℕ) × (i : ℕ) × S m i × (h.place m i ≡ Block s.block) × ((m ≡ s.second.height) × (i ≡ s.second.index) → ⊥)))

-- nodes of a number's file were marked for the trees of some bits
abbrev pub MarksFor : Held → (ℕ → ℕ → Type 0) → ℕ → ℕ → List ℕ → List ℕ → List (Option Shared) → List (Option Shared) → Type 0
MarksFor h S number bits old new before after =
    (k : ℕ) → HasBit k bits → LooksUnder h S k number old new before after

-- whatever came of it, for other trees nothing changed, and what was found twice stays
pub record KeepsMarks (bits : ℕ) (old new : List ℕ) (before after : List (Option Shared)) : Type 0 where
  pub length_is : length new ≡ length old
  pub others : (k : ℕ) → (HasBit k bits → ⊥) → StaysFor k old new before after
  pub kept : KeepsShared before after

-- the file of an inode was looked through: what it names is marked, and each indirect block is in
-- its grammar; or one isn't
abbrev pub MarksFile : Blocks → Sizes → Inode → ℕ → ℕ → List ℕ → List ℕ → List (Option Shared) → List (Option Shared) → Result (Unit {0}) CheckEnd → Type 0
MarksFile disk s inode number bits old new before after (Ok done) =
    MarksFor (held disk inode) IsAny number bits old new before after × IsFileGrammar s (held disk inode)
MarksFile disk s inode number bits old new before after (Err halts.NoMemory) = Unit {0}
MarksFile disk s inode number bits old new before after (Err halts.Device) = Unit {0}
MarksFile disk s inode number bits old new before after (Err (halts.Fault fault)) =
    (IsFileGrammar s (held disk inode) → ⊥) × (found : TreeFault) × (fault ≡ faults.Tree found)

-- each node of a file below a height stands where the one over it leads to
abbrev pub HasNodes : Layout → Blocks → Held → ℕ → Type 0
HasNodes layout disk h height =
    (m i : ℕ) → m < height
    → h.place m i ≡ follow disk (h.place (suc m) (i / fan_out layout)) (i % fan_out layout)

-- the indirect blocks of a file of so many blocks that are nodes told by S are in their grammar
abbrev pub AreIndirect : Layout → ℕ → Blocks → Held → ℕ → (ℕ → ℕ → Type 0) → Type 0
AreIndirect layout blocks disk h count S =
    (m i b : ℕ) → S (suc m) i → h.place (suc m) i ≡ Block b
    → IsIndirectBlock layout blocks (nodes_at layout count m - fan_out layout * i) (disk b)

-- the nodes of a file of so many blocks that are told by S were looked at
abbrev pub MarksThese : Layout → ℕ → Blocks → Held → (ℕ → ℕ → Type 0) → ℕ → ℕ → ℕ → List ℕ → List ℕ → List (Option Shared) → List (Option Shared) → Result (Unit {0}) CheckEnd → Type 0
MarksThese layout blocks disk h S number count bits old new before after (Ok done) =
    MarksFor h S number bits old new before after × AreIndirect layout blocks disk h count S
MarksThese layout blocks disk h S number count bits old new before after (Err halts.NoMemory) = Unit {0}
MarksThese layout blocks disk h S number count bits old new before after (Err halts.Device) = Unit {0}
MarksThese layout blocks disk h S number count bits old new before after (Err (halts.Fault fault)) =
    (AreIndirect layout blocks disk h count S → ⊥) × (found : TreeFault) × (fault ≡ faults.Tree found)
