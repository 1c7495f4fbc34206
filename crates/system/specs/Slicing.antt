-- A consistency point that is carried out in slices, between calls.
use Rattle.std.specs.Prelude.{[], ℕ, ◌≡◌, ◌≢◌, ◌⊎◌, ◌+◌, ◌*◌, ◌<◌, ◌≤◌, ◌^◌, List, Option, Some, None, Result, Ok, Err, OnOk, OnErr, IfErr, IfSome, IsErrOf, MatchResult, length}
use Rattle.station.specs.Calls.{OnlyWrites}
use Rattle.station.specs.Moments.{After, EachCut, LeavesJust, LeavesOnly}
use Rattle.station.specs.declared.station.Station.{Ghosts}
use Rattle.layout.specs.Places.{blocks_of}
use Rattle.model.specs.Records.{count_orphans}
use Rattle.model.specs.States.{State}
use Rattle.model.specs.Trees.{Description}
use Rattle.model.specs.Volumes.{Volume}
use Rattle.buffers.specs.Disks.{ReadsOn}
use Rattle.blockmap.specs.Changes.{SwitchesTo}
use Rattle.blockmap.specs.Maps.{entry_at}
use Rattle.inofile.specs.Inodes.{IsChanged}
use Rattle.inofile.specs.Room.{memory_room}
use Rattle.inofile.specs.declared.inode_file.InodeFile.{InodeFile}
use Rattle.images.specs.Roots.{whole}
use Rattle.images.specs.SnapshotSteps.{SnapshotStep, unchanged, kept_after}
use Rattle.oplog.specs.LogEnd.{Bodies, StandsAt, all_bodies, no_bodies}
use Rattle.oplog.specs.declared.log.End.TheVariants.{Unopened}
use Rattle.conspoint.specs.Cuts.{HasNewRoot, HasRootOrLost, StaysOutside}
use Rattle.conspoint.specs.Plans.{IsPlanned}
use Rattle.conspoint.specs.declared.error.PlanError.TheVariants.{Damaged, NoSpace}
use Rattle.overlay.specs.Overlays.{ShowsOver}
use Rattle.overlay.specs.declared.pending.PendingPoint.{PendingPoint}
use Rattle.planning.specs.declared.change.SnapshotChange.{SnapshotChange}
use Rattle.system.specs.Counting.{AgesBy, Counted, Failed, IsNoGeneration, LogsNothing, a_write, perhaps_reads, point_failed}
use Rattle.system.specs.Errors.{IsNotWritten, IsRefused}
use Rattle.system.specs.Images.{IsUnder, OpensTo}
use Rattle.system.specs.Memory.{HasEntries, HasEntriesToCome, IsInMemory}
use Rattle.system.specs.Plans.{IsPlannedOver}
use Rattle.system.specs.Points.{HasRoomToPlan, IsStepFor, MayCheckpoint}
use Rattle.system.specs.Room.{costs_on}
use Rattle.system.specs.Systems.{HasState, HasStateBy, ServesRest, disk_of, meaning_of, system_parts}
use Rattle.system.specs.declared.error.PointError.{PointError}
use Rattle.system.specs.declared.error.PointError.TheVariants.{NoGeneration, NotPlanned}
use Rattle.system.specs.declared.slicing.TheConstants.{SLICE_BLOCKS}
use Rattle.system.specs.declared.system.System.{System}

-- ---- a point is laid over the blocks

-- A point that does this with the snapshots is under way on a system, of which nothing is written:
-- memory stands on its root, over the disk that it leaves, for the volume that it settles over that
-- base, whatever memory served before. What is pledged for what that root doesn't cover is what its
-- orphans may cost.
pub record IsPending {S : Type 0} {G : Ghosts S} (step : SnapshotStep) (old new : System S G) (known : InodeFile) (table : ℕ → Option Description) (s : State)
    (serves : HasStateBy known old table s) (base v : Volume) : Type 0 where
  pub pending : PendingPoint
  pub is : new.blocks.pending ≡ Some pending
  pub unwritten : pending.plan.written ≡ 0
  pub sound : IsPlanned pending.plan
  pub slot : new.slot ≡ pending.plan.slot
  pub planned : IsPlannedOver step (meaning_of old).seen.disk old.root old.slot old.log.epoch pending.plan new.root v
  pub under : IsUnder new.slot new.root v (kept_after step serves.first serves.snapshots) (disk_of new)
  pub shows : ShowsOver (meaning_of new) new.blocks.buffers.kept new.blocks.pending (blocks_of (disk_of new))
  pub memory : IsInMemory (blocks_of (disk_of new)) new.root new.inodes v
  pub viewless : new.view ≡ None
  pub entries : HasEntries (whole (blocks_of (meaning_of old).seen.disk) old.root).active new.map
  pub to_come : HasEntriesToCome (whole (blocks_of (disk_of new)) new.root).active new.map
  pub newer : (g : ℕ) (bodies : Bodies) (nvram : List ℕ) → old.log.epoch ≡ g + 1 → StandsAt old.log g bodies nvram
      → StandsAt new.log g (record { older = all_bodies bodies; newest = [] }) nvram
  pub covered : (g : ℕ) (bodies : Bodies) (nvram : List ℕ) → g < 2 ^ 62 → StandsAt old.log g bodies nvram
      → StandsAt new.log old.log.epoch no_bodies nvram
  pub pledges : new.pledged_then ≡ (costs_on old).orphan * count_orphans old.root.geometry.inodes v
  pub stored : memory_room v new.inodes v ≤ new.pledged_then
  pub saves : step ≡ unchanged → memory_room base old.inodes v ≤ old.pledged → planned.room.spent + new.pledged_then ≤ old.pledged

-- What laying a point over a system's blocks does, which settles the objects that are in memory, or
-- why there is none: nothing is done but reading. A refused one leaves what was, and what the
-- system would serve by other objects.
pub record Begins {S : Type 0} {G : Ghosts S} (change : SnapshotChange) (old new : System S G) (result : Result (Unit {0}) PointError) : Type 0 where
  pub reads : ReadsOn (meaning_of old) (meaning_of new)
  pub counted : Counted (meaning_of old) (meaning_of new) (point_failed result)
  pub why : IfErr result IsRefused
  pub none : IfErr result (λ e. new.blocks.pending ≡ None)
  pub refused : (known : InodeFile) (table : ℕ → Option Description) (s : State) → HasStateBy known old table s
      → IfErr result (λ e. HasStateBy known new table s)
  pub memory : OnErr result (new.inodes ≡ old.inodes)
  pub log : MatchResult result (λ _. new.log ≡ record old.log { epoch = old.log.epoch + 1; end = Unopened }) (λ _. new.log ≡ old.log)
  pub same : OnOk result ((new.pledged ≡ old.pledged) × (new.files ≡ old.files) × (new.session ≡ old.session))
  pub generation : OnOk result (new.root.generation ≡ old.log.epoch)
  pub unchanged : OnOk result ((n : ℕ) → IsChanged new.inodes n → ⊥)
  pub unwritten : OnOk result (IfSome new.blocks.pending (λ l. l.plan.written ≡ 0))
  pub pending : (known : InodeFile) (table : ℕ → Option Description) (s : State) → (serves : HasStateBy known old table s) → (base v : Volume)
      → MayCheckpoint change old old.inodes table base v → (step : SnapshotStep) → IsStepFor change old step
      → HasRoomToPlan change old (memory_room base old.inodes v) → OnOk result (IsPending step old new known table s serves base v)
  pub roomy : (known : InodeFile) (table : ℕ → Option Description) (s : State) → HasStateBy known old table s → (base v : Volume)
      → MayCheckpoint change old old.inodes table base v → HasRoomToPlan change old (memory_room base old.inodes v)
      → IsErrOf result (NotPlanned NoSpace) → ⊥
  pub damaged : (known : InodeFile) (table : ℕ → Option Description) (s : State) → HasStateBy known old table s → (base v : Volume)
      → MayCheckpoint change old old.inodes table base v → IsErrOf result (NotPlanned Damaged) → ⊥
  pub last : (known : InodeFile) (table : ℕ → Option Description) (s : State) → HasStateBy known old table s
      → IsErrOf result NoGeneration → 2 ^ 62 ≤ old.log.epoch
  pub past : IsErrOf result NoGeneration → IsNoGeneration old.log.epoch

-- ---- it is carried out

-- What carrying out this point does to a system, whatever it serves. A cut at any moment leaves
-- some of its blocks, or the new root, or a disk on which the root's sector is lost.
pub record CarriesOut {S : Type 0} {G : Ghosts S} (old new : System S G) (result : Result (Unit {0}) PointError) (pending : PendingPoint) : Type 0 where
  pub any_moment : LeavesOnly (meaning_of old) (meaning_of new)
      (λ c. After (StaysOutside pending.plan.blocks) (meaning_of old) c ⊎ HasRootOrLost pending.plan (meaning_of old).seen c)
  pub settled : OnOk result (EachCut (meaning_of new) (HasNewRoot pending.plan (meaning_of old).seen))
  pub just : OnOk result (LeavesJust (meaning_of new) (meaning_of new).seen)
  pub map : SwitchesTo (entry_at old.map.parts.items) old.map new.map

-- a system serves a state that another one served, by the same running volume
pub record ServesBy {S : Type 0} {G : Ghosts S} (f : System S G) (table : ℕ → Option Description) (s : State) (running : Volume) : Type 0 where
  pub serves : HasState f table s
  pub volume : serves.running ≡ running

-- A state that a system serves stays, also at a cut at any moment.
pub record GoesOn {S : Type 0} {G : Ghosts S} (old new : System S G) (result : Result (Unit {0}) PointError) (table : ℕ → Option Description) (s : State)
    (serves : HasState old table s) : Type 0 where
  pub leaves : LeavesOnly (meaning_of old) (meaning_of new) (OpensTo (meaning_of old) s)
  pub stays : OnOk result (HasState new table s)
  pub by : OnOk result (ServesBy new table s serves.running)

-- What ending the point under way does to a system: none is under way then, and where none was,
-- nothing is done.
pub record Finishes {S : Type 0} {G : Ghosts S} (old new : System S G) (result : Result (Unit {0}) PointError) : Type 0 where
  pub writes : OnlyWrites IsNotWritten (meaning_of old) (meaning_of new) result
  pub why : IfErr result IsNotWritten
  pub unlogged : LogsNothing (meaning_of old) (meaning_of new)
  pub idle : old.blocks.pending ≡ None → (new ≡ old) × (result ≡ Ok tt)
  pub parts : system_parts new ≡ record (system_parts old) {
    kept = new.blocks.buffers.kept;
    pending = None;
    map = new.map;
    pledged = new.pledged;
  }
  pub pledges : old.blocks.pending ≢ None → new.pledged ≡ old.pledged_then
  pub shows : (disk : ℕ → List ℕ) → ShowsOver (meaning_of old) old.blocks.buffers.kept old.blocks.pending disk
      → OnOk result (ShowsOver (meaning_of new) new.blocks.buffers.kept new.blocks.pending disk)
  pub carried : IfSome old.blocks.pending (CarriesOut old new result)
  pub goes_on : (table : ℕ → Option Description) (s : State) → (serves : HasState old table s) → GoesOn old new result table s serves

-- ---- between calls

-- A step of the point under way: none is planned and written at once, and so many of its blocks are
-- written, or else all that are left.
abbrev pub StepsOn : Option PendingPoint → Option PendingPoint → Type 0
StepsOn None None = Unit {0}
StepsOn None (Some pending) = pending.plan.written ≡ 0
StepsOn (Some old) None = length old.plan.blocks ≤ old.plan.written + SLICE_BLOCKS
StepsOn (Some old) (Some new) =
    (new.plan ≡ record old.plan { written = old.plan.written + SLICE_BLOCKS })
    × (old.plan.written + SLICE_BLOCKS < length old.plan.blocks)

-- such a step, or none
abbrev pub MayStep : Option PendingPoint → Option PendingPoint → Type 0
MayStep old new = (new ≡ old) ⊎ StepsOn old new

-- which device calls failed of a step: of one that was done perhaps reads, since a plan may have
-- been given up
abbrev pub step_failed : {T E : Type 0} → Result T E → Failed
step_failed (Ok it) = perhaps_reads
step_failed (Err e) = a_write

-- What a step does to a system. What it serves stays, also at a cut at any moment, and nothing is
-- logged; the newest root may come to cover some of the records.
pub record Steps {S : Type 0} {G : Ghosts S} (old new : System S G) (result : Result (Unit {0}) PointError) : Type 0 where
  pub counted : Counted (meaning_of old) (meaning_of new) (step_failed result)
  pub unlogged : LogsNothing (meaning_of old) (meaning_of new)
  pub leaves : (table : ℕ → Option Description) (s : State) → HasState old table s → LeavesOnly (meaning_of old) (meaning_of new) (OpensTo (meaning_of old) s)
  pub rest : (table : ℕ → Option Description) (s : State) (serves : HasState old table s)
      → OnOk result (ServesRest new table s (all_bodies serves.lasts.bodies))
  pub epoch : AgesBy 1 old.log.epoch new.log.epoch
  pub runs : new.log.is_stopped ≡ old.log.is_stopped
  pub same : old.blocks.pending ≢ None → (new.log ≡ old.log) × (new.root ≡ old.root)
  pub pending : OnOk result (StepsOn old.blocks.pending new.blocks.pending)

-- a system serves the rest of what another one served, by the same running volume
pub record ServesRestBy {S : Type 0} {G : Ghosts S} (f : System S G) (table : ℕ → Option Description) (s : State) (before : List (List ℕ))
    (running : Volume) : Type 0 where
  pub rest : ServesRest f table s before
  pub volume : rest.serves.running ≡ running

-- What a slice leaves as it is: the open files, and memory, which stands for the same volume over
-- blocks that read the same. So what is prepared can be done behind it.
pub record StaysReady {S : Type 0} {G : Ghosts S} (old new : System S G) (result : Result (Unit {0}) PointError) : Type 0 where
  pub parts : system_parts new ≡ record (system_parts old) {
    kept = new.blocks.buffers.kept;
    pending = new.blocks.pending;
    map = new.map;
    pledged = new.pledged;
  }
  pub shows : (disk : ℕ → List ℕ) → ShowsOver (meaning_of old) old.blocks.buffers.kept old.blocks.pending disk
      → OnOk result (ShowsOver (meaning_of new) new.blocks.buffers.kept new.blocks.pending disk)
  pub rest : (table : ℕ → Option Description) (s : State) (serves : HasState old table s)
      → OnOk result (ServesRestBy new table s (all_bodies serves.lasts.bodies) serves.running)
