-- What the parts of a plan promise of the disk, of the draft, and of the root that comes into force
-- then.
use Rattle.std.specs.Prelude.{ℕ, ◌≡◌, ◌+◌, ◌*◌, ◌<◌, ◌≤◌, List, Result, OnOk, IfOk, IsErrOf}
use Rattle.layout.specs.Places.{blocks_of}
use Rattle.layout.specs.Root.{IsRoot, root_bytes}
use Rattle.layout.specs.StateLimits.{fixed_of}
use Rattle.layout.specs.declared.limits.TheConstants.{ORPHAN_COST}
use Rattle.layout.specs.declared.root.Root.{Root}
use Rattle.layout.specs.declared.version.TheConstants.{VERSION}
use Rattle.model.specs.Records.{count_orphans}
use Rattle.model.specs.Volumes.{Volume}
use Rattle.buffers.specs.Reads.{ReadsBlocks}
use Rattle.buffers.specs.declared.blocks.Blocks.{Ghosts}
use Rattle.blockmap.specs.Maps.{entry_at, settled_at}
use Rattle.blockmap.specs.Space.{left}
use Rattle.blockmap.specs.declared.map.BlockMap.{BlockMap}
use Rattle.conspoint.specs.Drafts.{Grows}
use Rattle.conspoint.specs.Errors.{IsReadFault}
use Rattle.conspoint.specs.Plans.{FitsDisk}
use Rattle.conspoint.specs.Space.{Lacks, TakesAtMost}
use Rattle.conspoint.specs.Writes.{writes_of}
use Rattle.conspoint.specs.declared.draft.Draft.{Draft}
use Rattle.conspoint.specs.declared.error.PlanError.{PlanError}
use Rattle.conspoint.specs.declared.error.PlanError.TheVariants.{Damaged, NoSpace}
use Rattle.images.specs.Cuts.{IsPointWith, LeavesFree}
use Rattle.images.specs.Nodes.{file_block, held}
use Rattle.images.specs.Roots.{whole}
use Rattle.images.specs.SnapshotSteps.{CanStep, SnapshotStep}
use Rattle.inofile.specs.Room.{memory_room}
use Rattle.inofile.specs.declared.inode_file.InodeFile.{InodeFile}
use Rattle.planning.specs.Changes.{IsStepOf, SharesNone}
use Rattle.planning.specs.Plans.{IsClean, PlansEntries}
use Rattle.planning.specs.Progress.{KeepsSets}
use Rattle.planning.specs.Space.{CountsBlocks}
use Rattle.planning.specs.Steps.{OverTree}
use Rattle.planning.specs.declared.change.SnapshotChange.{SnapshotChange}
use Rattle.planning.specs.declared.points.Point.{Point}

-- A part that plans files. It reads settled blocks, and may fail as a read does. The draft only
-- grows, and of the map's sets the active tree's alone changes. So many blocks are taken at the
-- most; for want of space it fails only where fewer are left.
pub record PlansFiles {B T : Type 0} (G : Ghosts B) (n : ℕ) (blocks after : B) (old new : Draft) (result : Result T PlanError) : Type 0 where
  pub reads : ReadsBlocks G IsReadFault blocks after result
  pub grows : Grows old new
  pub sets : OnOk result (KeepsSets (entry_at old.map.parts.items) (entry_at new.map.parts.items))
  pub takes : OnOk result (TakesAtMost n old new)
  pub lacks : IsErrOf result NoSpace → Lacks n old

-- these numbers count each block of the inode map that tells other than the settled one
abbrev pub CountsMap : {B : Type 0} {G : Ghosts B} {blocks : B} {inodes : InodeFile} → OverTree G blocks inodes → (ℕ → ℕ) → Type 0
CountsMap {inodes = inodes} o w = CountsBlocks w inodes.numbers.bytes.items (file_block (held o.disk (o.settled 1)))

-- the same of parts of which the inode map is one: so many blocks are taken for any numbers that
-- count its blocks
pub record PlansParts {B T : Type 0} (G : Ghosts B) (inodes : InodeFile) (n : (ℕ → ℕ) → ℕ) (blocks after : B) (old new : Draft)
    (result : Result T PlanError) : Type 0 where
  pub reads : ReadsBlocks G IsReadFault blocks after result
  pub grows : Grows old new
  pub sets : OnOk result (KeepsSets (entry_at old.map.parts.items) (entry_at new.map.parts.items))
  pub takes : (o : OverTree G blocks inodes) (w : ℕ → ℕ) → CountsMap o w → OnOk result (TakesAtMost (n w) old new)
  pub lacks : (o : OverTree G blocks inodes) (w : ℕ → ℕ) → CountsMap o w → IsErrOf result NoSpace → Lacks (n w) old

-- The whole, which changes the snapshots' sets too. The answer is the root that comes into force
-- then: of this generation, of the newest version, and of the sizes of the root before.
pub record PlansRoot {B : Type 0} (G : Ghosts B) (inodes : InodeFile) (n : (ℕ → ℕ) → ℕ) (number : ℕ) (before : Root) (blocks after : B)
    (old new : Draft) (result : Result Root PlanError) : Type 0 where
  pub reads : ReadsBlocks G IsReadFault blocks after result
  pub grows : Grows old new
  pub takes : (o : OverTree G blocks inodes) (w : ℕ → ℕ) → CountsMap o w → OnOk result (TakesAtMost (n w) old new)
  pub lacks : (o : OverTree G blocks inodes) (w : ℕ → ℕ) → CountsMap o w → IsErrOf result NoSpace → Lacks (n w) old
  pub root : IfOk result IsRoot
  pub generation : IfOk result (λ r. r.generation ≡ number)
  pub geometry : IfOk result (λ r. r.geometry ≡ before.geometry)
  pub version : IfOk result (λ r. r.version ≡ VERSION)

-- a root in its grammar; the map, a disk of so many blocks, and memory are of its sizes
pub record AreOfSizes (root : Root) (inodes : InodeFile) (count : ℕ) (m : BlockMap) : Type 0 where
  pub root_is : IsRoot root
  pub size : m.count ≡ root.geometry.blocks
  pub disk : count ≡ root.geometry.blocks
  pub sizes : inodes.geometry ≡ root.geometry

-- the map has its settled entries still
pub record KeepsMap (old new : BlockMap) : Type 0 where
  pub count : new.count ≡ old.count
  pub settled : (b : ℕ) → settled_at new.parts.items b ≡ settled_at old.parts.items b

-- no entry is changed, and the next block to be given out is the first behind the roots
pub record IsGivenUp (map : BlockMap) : Type 0 where
  pub clean : IsClean map
  pub next : map.next ≡ 2

-- A point over a root, of which nothing is written: its root is of this generation, of the newest
-- version, and of the sizes of the one before, and comes into this slot.
pub record IsPointOver (before : Root) (slot generation : ℕ) (p : Point) : Type 0 where
  pub none : p.plan.written ≡ 0
  pub slot_is : p.plan.slot ≡ slot
  pub bytes : p.plan.root ≡ root_bytes p.root
  pub fits : (sectors : ℕ) → 16 ≤ sectors → 8 * before.geometry.blocks ≤ sectors → FitsDisk sectors p.plan
  pub root_is : IsRoot p.root
  pub generation_is : p.root.generation ≡ generation
  pub geometry : p.root.geometry ≡ before.geometry
  pub version : p.root.version ≡ VERSION

-- What is planned over a disk, where memory stands for volume v and the tree that the point starts
-- from for base.
pub record PlansPoint (change : SnapshotChange) (root : Root) (d : ℕ → List ℕ) (slot : ℕ) (map : BlockMap) (inodes : InodeFile) (base v : Volume)
    (after : BlockMap) (result : Result Point PlanError) : Type 0 where
  pub point : (step : SnapshotStep) → IsStepOf change root step → CanStep step root (whole (blocks_of d) root)
      → IfOk result (λ p. IsPointWith step root d (writes_of p.plan.blocks) slot p.root v)
  pub entries : IfOk result (λ p. PlansEntries (blocks_of d) root p.plan p.root after)
  pub damaged : IsErrOf result Damaged → ⊥
  -- it leaves all blocks free but as many as memory may need; what is kept for orphans isn't among
  -- these
  pub leaves : map.next ≡ 2 → (step : SnapshotStep) → IsStepOf change root step → CanStep step root (whole (blocks_of d) root)
      → (spent : ℕ) → memory_room base inodes v + fixed_of map.count ≤ spent + ORPHAN_COST * count_orphans inodes.geometry.inodes v
      → IfOk result (λ p. LeavesFree spent root (blocks_of d) (writes_of p.plan.blocks) p.root)
  -- where no snapshot is taken or restored, what every point stores is given back
  pub room : map.next ≡ 2 → (step : SnapshotStep) → IsStepOf change root step → SharesNone step
      → CanStep step root (whole (blocks_of d) root)
      → (spent : ℕ) → memory_room base inodes v ≤ spent + ORPHAN_COST * count_orphans inodes.geometry.inodes v
      → IfOk result (λ p. LeavesFree spent root (blocks_of d) (writes_of p.plan.blocks) p.root)
  pub needs : IsErrOf result NoSpace
      → left map + ORPHAN_COST * count_orphans inodes.geometry.inodes v < memory_room base inodes v + fixed_of map.count
