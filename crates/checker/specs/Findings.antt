-- Faults that are found, and when there is such a fault in images.
use Rattle.std.specs.Prelude.{ℕ, zero, suc, ◌<◌, ◌≤◌, ◌≡◌, ◌≢◌, ◌↔◌, nat_le, if◌then◌else◌, List, [], ◌∷◌, ◌++◌, take, fold, Option, Some, None, IsTrue}
use Rattle.layout.specs.Maps.{IsTaken}
use Rattle.layout.specs.Places.{blocks_of}
use Rattle.layout.specs.Record.{Change}
use Rattle.layout.specs.SnapRoot.{Snapshot}
use Rattle.layout.specs.declared.kind.Kind.{Kind}
use Rattle.layout.specs.declared.kind.Kind.TheVariants.{Directory, File, Free, Link}
use Rattle.layout.specs.declared.pointer.Pointer.TheVariants.{Block}
use Rattle.layout.specs.declared.root.Root.{Root}
use Rattle.model.specs.declared.attributes.Attributes.{Attributes}
use Rattle.model.specs.Volumes.{HasNames, Volume, entries, file_node}
use Rattle.images.specs.BlockMap.{HasBit, IsSystem, entry}
use Rattle.images.specs.Contents.{HoldsVolume, content_bytes, content_of, tree_contents}
use Rattle.images.specs.Faults.{HasLog, HasRoots, HoldsNames, IsFaultless, IsTreeGrammar}
use Rattle.images.specs.Roots.{HeldTree, Reach, Whole, slot, whole}
use Rattle.images.specs.Snapshots.{AreSnapshots, FitsRoot, HasSnapshot}
use Rattle.images.specs.Soundness.{IsReadable, IsWithin}
use Rattle.loading.specs.Slots.{HasNoRoot}
use Rattle.checker.specs.declared.fault.DirectoryFault.{DirectoryFault}
use Rattle.checker.specs.declared.fault.DirectoryFault.TheVariants.{Entries, Repeated, Twice, Unreached, Unused}
use Rattle.checker.specs.declared.fault.Fault.{Fault}
use Rattle.checker.specs.declared.fault.Fault.TheVariants as faults
use Rattle.checker.specs.declared.fault.FileNode.{FileNode}
use Rattle.checker.specs.declared.fault.Finding.{Finding}
use Rattle.checker.specs.declared.fault.RootsFault.{RootsFault}
use Rattle.checker.specs.declared.fault.RootsFault.TheVariants as roots
use Rattle.checker.specs.declared.fault.SnapshotFault.{SnapshotFault}
use Rattle.checker.specs.declared.fault.SnapshotFault.TheVariants.{NoSnapshot, SameAs}
use Rattle.checker.specs.declared.fault.SnapshotName.{SnapshotName}
use Rattle.checker.specs.declared.fault.TreeName.{TreeName}
use Rattle.checker.specs.declared.fault.TreeName.TheVariants as trees

abbrev pub fault_number : Fault → ℕ
fault_number (faults.Roots found) = 1
fault_number (faults.Snapshot slot block found) = 2
fault_number (faults.Tree found) = 3
fault_number (faults.Shared block first second) = 4
fault_number (faults.MapBit block entry expected) = 5
fault_number (faults.InodeMap number is_taken) = 6
fault_number (faults.Directory found) = 7
fault_number (faults.Links number names links) = 8
fault_number (faults.Log found) = 9

-- the first of two findings: of equal ones that which stood there
abbrev pub first_of : Option Finding → Finding → Finding
first_of None finding = finding
first_of (Some first) finding =
    if nat_le (fault_number first.fault) (fault_number finding.fault) then first else finding

-- the first of all these, in the order in which they were told
abbrev pub first_among : List Finding → Option Finding
first_among told = fold (λ first finding. Some (first_of first finding)) None told

-- a watch of which it is known what it was told was told this too
abbrev pub AddsTold : Finding → Option (List Finding) → Option (List Finding) → Type 0
AddsTold finding None new = Unit {0}
AddsTold finding (Some told) new = new ≡ Some (told ++ finding ∷ [])

-- it is known what a watch was told, and this is the first of it
pub record IsFirstTold (known : Option (List Finding)) (first : Option Finding) : Type 0 where
  pub told : List Finding
  pub these : known ≡ Some told
  pub first_is : first_among told ≡ first

-- of two faults of a tree the first, if there is one before
abbrev pub first_fault : Option Fault → Fault → Fault
first_fault None fault = fault
first_fault (Some first) fault = if nat_le (fault_number first) (fault_number fault) then first else fault

-- a tree of a root: the active one has number 0, and that of the snapshot in slot k has number k
abbrev pub tree_in : Whole → ℕ → HeldTree
tree_in w zero = w.active
tree_in w (suc k) = w.frozen (suc k)

-- a root has a tree of this number
abbrev pub HasTree : Root → ℕ → Type 0
HasTree r zero = Unit {0}
HasTree r (suc k) = (block : ℕ) × (slot r (suc k) ≡ Block block)

-- the bytes of a snapshot's name
abbrev pub name_bytes : SnapshotName → List ℕ
name_bytes name = take name.length name.bytes

-- the tree of a name: that of a snapshot stands under the root block in the slot, which has this
-- name
abbrev pub IsNamedTree : Root → Whole → TreeName → ℕ → Type 0
IsNamedTree r w trees.Image k = ⊥
IsNamedTree r w trees.Newest k = k ≡ 0
IsNamedTree r w (trees.Snapshot slot name) k =
    (k ≡ slot) × (s : Snapshot) × HasSnapshot r w k s × (s.name ≡ name_bytes name)

-- a node of a tree stands in a block
abbrev pub StandsIn : HeldTree → FileNode → ℕ → Type 0
StandsIn t node block = (t node.number).place node.height node.index ≡ Block block

-- bits that a block's entry should have: those of the trees that name it, and of the system's own
-- blocks
pub record ShouldHave (r : Root) (w : Whole) (block bits : ℕ) : Type 0 where
  pub active : HasBit 0 bits ↔ Reach w.active block
  pub frozen : (k : ℕ) → 1 ≤ k → k ≢ 31 → HasBit k bits ↔ Reach (w.frozen k) block
  pub system : HasBit 31 bits ↔ IsSystem r block

-- what a name may lead to
abbrev pub IsNamedKind : Kind → Type 0
IsNamedKind File = Unit {0}
IsNamedKind Directory = Unit {0}
IsNamedKind Link = Unit {0}
IsNamedKind _ = ⊥

-- the kinds of objects that have one name
abbrev pub HasOneName : Kind → Type 0
HasOneName Directory = Unit {0}
HasOneName Link = Unit {0}
HasOneName _ = ⊥

-- the numbers that are told with a fault of the directories are those of a directory, of nothing
-- that may be named, and of an object that has one name
abbrev pub TellsNumbers : HeldTree → DirectoryFault → Type 0
TellsNumbers t (Entries d block) = (t d).inode.kind ≡ Directory
TellsNumbers t (Repeated d) = (t d).inode.kind ≡ Directory
TellsNumbers t (Unused d n) = ((t d).inode.kind ≡ Directory) × (IsNamedKind (t n).inode.kind → ⊥)
TellsNumbers t (Twice n) = HasOneName (t n).inode.kind
TellsNumbers t (Unreached n) = HasOneName (t n).inode.kind

-- a fault that stands in one tree
abbrev pub IsTreeFinding : Root → HeldTree → Fault → Type 0
IsTreeFinding r t (faults.Tree found) = IsTreeGrammar r.geometry t → IsWithin r.version t → ⊥
IsTreeFinding r t (faults.Shared block first second) = StandsIn t first block × StandsIn t second block × (first ≢ second)
IsTreeFinding r t (faults.InodeMap number is_taken) =
    (IsTaken (content_bytes (content_of (t 1))) number ↔ IsTrue is_taken)
    × (IsTrue is_taken ↔ ((t number).inode.kind ≡ Free))
IsTreeFinding r t (faults.Directory found) =
    (HoldsNames r.geometry.inodes t → ⊥) × TellsNumbers t found
IsTreeFinding r t (faults.Links number names links) =
    (v : Volume) × HoldsVolume r.geometry.inodes (tree_contents t) v
    × HasNames (entries v) number names × (names ≢ links)
    × (attributes : Attributes) × (bytes : List ℕ) × (v number ≡ Some (file_node attributes links bytes))
IsTreeFinding r t fault = ⊥

-- the log doesn't hold records that apply
abbrev pub LacksLog : Root → Whole → List ℕ → Type 0
LacksLog r w nvram = (changes : List Change) → HasLog r w nvram changes → ⊥

-- the snapshots in two slots, where there are two, differ in name and in order
abbrev pub AreApart : Root → Whole → ℕ → ℕ → Type 0
AreApart r w k l =
    (s q : Snapshot) → HasSnapshot r w k s → HasSnapshot r w l q
    → (s.name ≢ q.name) × (s.order ≢ q.order)

-- the block of a slot is no root of a snapshot that fits the root, or that of an earlier slot isn't
-- apart from it
abbrev pub TellsSlotFault : Root → Whole → ℕ → SnapshotFault → Type 0
TellsSlotFault r w k NoSnapshot = (s : Snapshot) → FitsRoot r (w.head k) s → ⊥
TellsSlotFault r w k (SameAs l) = (l < k) × (AreApart r w l k → ⊥)

-- a fault that stands under a root
abbrev pub IsFindingUnder : Root → Whole → List ℕ → TreeName → Fault → Type 0
IsFindingUnder r w nvram tree (faults.Roots found) = ⊥
IsFindingUnder r w nvram tree (faults.Snapshot k block found) =
    (slot r k ≡ Block block) × (AreSnapshots r w → ⊥) × TellsSlotFault r w k found
IsFindingUnder r w nvram tree (faults.MapBit block is should) =
    (entry w.active block ≡ is) × (is ≢ should) × ShouldHave r w block should
IsFindingUnder r w nvram tree (faults.Log found) =
    IsFaultless r.geometry w.active × LacksLog r w nvram
IsFindingUnder r w nvram trees.Image (faults.Tree found) = IsReadable (w.active 2) → ⊥
IsFindingUnder r w nvram tree fault = (k : ℕ) × IsNamedTree r w tree k × IsTreeFinding r (tree_in w k) fault

-- no slot holds a root, or one does
abbrev pub TellsRoots : ℕ → (ℕ → List ℕ) → RootsFault → Type 0
TellsRoots sectors disk roots.None = HasNoRoot sectors disk
TellsRoots sectors disk roots.Unfit = HasNoRoot sectors disk → ⊥

-- there is such a fault in a disk of so many sectors and an NVRAM
abbrev pub IsFaultIn : ℕ → (ℕ → List ℕ) → List ℕ → TreeName → Fault → Type 0
IsFaultIn sectors disk nvram tree (faults.Roots found) =
    ((r : Root) → HasRoots r sectors disk nvram → ⊥) × TellsRoots sectors disk found
IsFaultIn sectors disk nvram tree fault =
    (r : Root) × HasRoots r sectors disk nvram × IsFindingUnder r (whole (blocks_of disk) r) nvram tree fault

abbrev pub IsFinding : ℕ → (ℕ → List ℕ) → List ℕ → Finding → Type 0
IsFinding sectors disk nvram finding = IsFaultIn sectors disk nvram finding.tree finding.fault
