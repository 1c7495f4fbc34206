-- What a check comes to.
use Rattle.std.specs.Prelude.{ℕ, ◌≡◌, ◌⊎◌, ◌↔◌, IsTrue, Bool, true, false, List, length, count_by, Option, Some, None, Result, Ok, Err, IfErr, OnOk, slice_get}
use Rattle.station.specs.Images.{Unchanged}
use Rattle.station.specs.Moments.{Goes, HasGrown, IsSameStation, LeavesJust, MayGrow, Meaning}
use Rattle.layout.specs.Places.{blocks_of}
use Rattle.layout.specs.Record.{Change}
use Rattle.layout.specs.declared.pointer.Pointer.{Pointer}
use Rattle.layout.specs.declared.pointer.Pointer.TheVariants.{Block, Hole}
use Rattle.layout.specs.declared.root.Root.{Root}
use Rattle.model.specs.Volumes.{Volume}
use Rattle.images.specs.BlockMap.{IsExact}
use Rattle.images.specs.Faults.{HasRoots, IsFaultless, IsFaultlessUnder}
use Rattle.images.specs.Room.{free_under}
use Rattle.images.specs.Roots.{Whole, whole}
use Rattle.images.specs.Soundness.{IsReadable, IsWithin}
use Rattle.images.specs.States.{HasReserve}
use Rattle.checker.specs.Findings.{HasTree, IsFinding, IsFindingUnder, tree_in}
use Rattle.checker.specs.Trees.{IsApart}
use Rattle.checker.specs.declared.error.CheckError.{CheckError}
use Rattle.checker.specs.declared.error.CheckError.TheVariants.{Device}
use Rattle.checker.specs.declared.error.CheckEnd.{CheckEnd}
use Rattle.checker.specs.declared.error.CheckEnd.TheVariants as halts
use Rattle.checker.specs.declared.fault.Fault.{Fault}
use Rattle.checker.specs.declared.fault.Finding.{Finding}
use Rattle.checker.specs.declared.report.Report.{Report}
use Rattle.checker.specs.declared.report.Report.TheVariants.{Bad, Good}
use Rattle.checker.specs.declared.report.Summary.{Summary}
use Rattle.checker.specs.declared.tree.Tree.{Tree}

-- a part of a check passes, or a fault is found; nothing is said where memory ran out or a device
-- call failed
abbrev pub Passes : {T : Type 0} → (T → Type 0) → (Fault → Type 0) → Result T CheckEnd → Type 0
Passes Is Found (Ok value) = Is value
Passes Is Found (Err halts.NoMemory) = Unit {0}
Passes Is Found (Err halts.Device) = Unit {0}
Passes Is Found (Err (halts.Fault fault)) = Found fault

-- a pointer leads to a block
abbrev pub is_block : Pointer → Bool
is_block Hole = false
is_block (Block block) = true

-- the figures of an image without faults, under its newest root, of this volume and with these
-- records over it
pub record TellsSummary (r : Root) (w : Whole) (first : Volume) (changes : List Change) (s : Summary) : Type 0 where
  pub generation_is : s.generation ≡ r.generation
  pub snapshots_are : s.snapshots ≡ count_by is_block r.snapshots
  pub records_are : s.records ≡ length changes
  pub free_is : s.free ≡ free_under w.active r.geometry.blocks
  pub reserve_is : IsTrue s.has_reserve ↔ HasReserve r w first changes

abbrev pub IsGood : Report → Type 0
IsGood (Good summary) = Unit {0}
IsGood (Bad finding) = ⊥

-- no fault stands under the newest root, and these are the figures
pub record IsGoodBy (sectors : ℕ) (disk : ℕ → List ℕ) (nvram : List ℕ) (s : Summary) : Type 0 where
  pub root : Root
  pub changes : List Change
  pub roots : HasRoots root sectors disk nvram
  pub under : IsFaultlessUnder root (whole (blocks_of disk) root) nvram changes
  pub figures : TellsSummary root (whole (blocks_of disk) root) under.log.first changes s

-- A report of a disk of so many sectors and an NVRAM is true.
abbrev pub Reports : ℕ → (ℕ → List ℕ) → List ℕ → Report → Type 0
Reports sectors disk nvram (Good summary) = IsGoodBy sectors disk nvram summary
Reports sectors disk nvram (Bad finding) = IsFinding sectors disk nvram finding

-- a read, a write or a sync failed
abbrev pub HasFailed : Meaning → Meaning → Type 0
HasFailed old new = HasGrown old.failed_reads new.failed_reads ⊎ HasGrown old.failed_writes new.failed_writes

-- what reads give is settled, and nothing else is done to a station but reading
pub record Settles {T : Type 0} (old new : Meaning) (result : Result T CheckError) : Type 0 where
  pub same : IsSameStation old new
  pub goes : Goes Unchanged old new
  pub grown : MayGrow old.failed_reads new.failed_reads
  pub device : IfErr result (λ e. e ≡ Device → HasFailed old new)
  pub settled : OnOk result (LeavesJust new old.seen)

-- what was found first, of trees that were looked at: whether none is out of its grammar or names a
-- block twice, and none has a fault where nothing was found
pub record TellsTrees (first : Option Finding) (trees : List Tree) (are_apart : Bool) : Type 0 where
  pub apart : IsTrue are_apart → (i : ℕ) (t : Tree) → slice_get trees i ≡ Some t → IsApart t.fault
  pub told : first ≡ None → (i : ℕ) (t : Tree) → slice_get trees i ≡ Some t → t.fault ≡ None
  pub all : first ≡ None → IsTrue are_apart

-- the report of what was found first, or of an image without faults
abbrev pub report_of : Option Finding → Option Summary → Report
report_of (Some finding) summary = Bad finding
report_of None (Some summary) = Good summary
report_of None None =
    Good (record { generation = 0; snapshots = 0; records = 0; free = 0; has_reserve = false })

-- the fault that a report tells
abbrev pub found_in : Report → Option Finding
found_in (Good summary) = None
found_in (Bad finding) = Some finding

-- what was found first stands under a root
abbrev pub AreFindings : Root → Whole → List ℕ → Option Finding → Type 0
AreFindings r w nvram None = Unit {0}
AreFindings r w nvram (Some finding) = IsFindingUnder r w nvram finding.tree finding.fault

-- no fault stands under a root, and these are the figures
pub record IsFaultlessBy (r : Root) (w : Whole) (nvram : List ℕ) (s : Summary) : Type 0 where
  pub changes : List Change
  pub under : IsFaultlessUnder r w nvram changes
  pub figures : TellsSummary r w under.log.first changes s

-- no fault stands in the trees of a root, whose files are no larger than its version allows, and in
-- its block map, which can be read and has so many free blocks
pub record AreFaultless (r : Root) (w : Whole) (free : ℕ) : Type 0 where
  pub trees : (k : ℕ) → HasTree r k → IsFaultless r.geometry (tree_in w k)
  pub within : (k : ℕ) → HasTree r k → IsWithin r.version (tree_in w k)
  pub readable : IsReadable (w.active 2)
  pub exact : IsExact r w
  pub free_is : free ≡ free_under w.active r.geometry.blocks
