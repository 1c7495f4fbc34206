-- What is planned of a consistency point for a system.
use Rattle.std.specs.Prelude.{ℕ, ◌≡◌, ◌⊎◌, ◌+◌, ◌*◌, ◌≤◌, ◌^◌, List, Option, Result, OnOk, IfErr, IsErrOf, MatchResult, None}
use Rattle.model.specs.declared.session.Session.{Session}
use Rattle.model.specs.declared.limits.Limits.{Limits}
use Rattle.station.specs.Images.{Unchanged}
use Rattle.station.specs.Moments.{Goes, LeavesOnly, Meaning}
use Rattle.station.specs.declared.station.Station.{Ghosts}
use Rattle.layout.specs.StateLimits.{limits_of}
use Rattle.model.specs.Volumes.{IsMounted, IsVolume, Volume}
use Rattle.descriptors.specs.Fits.{FitsVolume}
use Rattle.descriptors.specs.declared.table.Descriptors.{Descriptors}
use Rattle.images.specs.Contents.{HoldsVolume, tree_contents}
use Rattle.images.specs.Roots.{slot, whole}
use Rattle.images.specs.SnapshotSteps.{SnapshotStep, unchanged, taken, deleted, restored, CanStep, kept_after}
use Rattle.inofile.specs.Inodes.{IsChanged}
use Rattle.inofile.specs.Volumes.{IsVolumeOf}
use Rattle.inofile.specs.declared.inode_file.InodeFile.{InodeFile}
use Rattle.loading.specs.Images.{inodes_of}
use Rattle.oplog.specs.LogEnd.{LogEnd}
use Rattle.oplog.specs.declared.log.End.TheVariants.{Unopened}
use Rattle.conspoint.specs.declared.error.PlanError.TheVariants.{Damaged, NoSpace}
use Rattle.planning.specs.Changes.{HasRestored, IsStepOf, starting_tree}
use Rattle.planning.specs.declared.change.SnapshotChange.{SnapshotChange}
use Rattle.planning.specs.declared.change.SnapshotChange.TheVariants as changes
use Rattle.model.specs.Paths.{Name}
use Rattle.model.specs.States.{State, with_snapshots}
use Rattle.model.specs.Trees.{Description, Tree}
use Rattle.layout.specs.Places.{Blocks, blocks_of}
use Rattle.layout.specs.declared.pointer.Pointer.TheVariants.{Block}
use Rattle.layout.specs.declared.root.Root.{Root}
use Rattle.system.specs.Counting.{Counted, IsNoGeneration, LogsNothing, point_failed}
use Rattle.system.specs.Errors.{IsRefused}
use Rattle.system.specs.Images.{OpensTo}
use Rattle.system.specs.Room.{HasRoomToTake, costs_on}
use Rattle.system.specs.Systems.{IsCovered, HasState, disk_of, meaning_of, state_with}
use Rattle.system.specs.declared.error.PointError.{PointError}
use Rattle.system.specs.declared.error.PointError.TheVariants.{NoGeneration, NotPlanned, NotWritten}
use Rattle.system.specs.declared.system.System.{System}

-- The disk has room for a point that does this with the snapshots and starts from the tree that is
-- there: always, but where one is taken only if it has room for that. No such point restores one.
abbrev pub HasRoomToStep : {S : Type 0} {G : Ghosts S} → SnapshotChange → System S G → Type 0
HasRoomToStep changes.Unchanged f = Unit {0}
HasRoomToStep (changes.Take slot order name) f = HasRoomToTake f
HasRoomToStep (changes.Delete slot) f = Unit {0}
HasRoomToStep (changes.Restore slot inode_file) f = ⊥

-- The same of a point whose memory may need so many blocks, where so many are free and every point
-- stores so many of its own: where a snapshot is taken or restored, these are free twice.
abbrev pub HasRoomFor : SnapshotChange → (fixed free needs : ℕ) → Type 0
HasRoomFor changes.Unchanged fixed free needs = needs + fixed ≤ free
HasRoomFor (changes.Take slot order name) fixed free needs = needs + 2 * fixed ≤ free
HasRoomFor (changes.Delete slot) fixed free needs = needs + fixed ≤ free
HasRoomFor (changes.Restore slot inode_file) fixed free needs = needs + 2 * fixed ≤ free

abbrev pub HasRoomToPlan : {S : Type 0} {G : Ghosts S} → SnapshotChange → System S G → ℕ → Type 0
HasRoomToPlan change f needs = HasRoomFor change (costs_on f).point f.free needs

-- What a point that does this with the snapshots under a root may settle: memory stands for a
-- volume over the tree that the point starts from, which holds this one, and these open files are
-- of it.
pub record MayCheckpointOver (change : SnapshotChange) (disk : Blocks) (root : Root) (files : Descriptors) (memory : InodeFile) (table : ℕ → Option Description)
    (base v : Volume) : Type 0 where
  pub restored : HasRestored change root (whole disk root)
  pub base_held : HoldsVolume root.geometry.inodes (tree_contents (starting_tree change (whole disk root))) base
  pub base_volume : IsVolume (limits_of root.geometry) base
  pub stands : IsVolumeOf root.geometry.blocks disk (inodes_of (starting_tree change (whole disk root))) memory v
  pub volume : IsVolume (limits_of root.geometry) v
  pub mounted : IsMounted v table
  pub fits : FitsVolume files v

abbrev pub MayCheckpoint : {S : Type 0} {G : Ghosts S} → SnapshotChange → System S G → InodeFile → (ℕ → Option Description) → (base v : Volume) → Type 0
MayCheckpoint change f memory table base v = MayCheckpointOver change (blocks_of (disk_of f)) f.root f.files memory table base v

-- what is asked of the snapshots is this step, and the disk of a system allows it
pub record IsStepFor {S : Type 0} {G : Ghosts S} (change : SnapshotChange) (f : System S G) (step : SnapshotStep) : Type 0 where
  pub is : IsStepOf change f.root step
  pub can : CanStep step f.root (whole (blocks_of (disk_of f)) f.root)

-- the step starts from the tree that is there
abbrev pub StartsActive : SnapshotStep → Type 0
StartsActive unchanged = Unit {0}
StartsActive (taken k s) = Unit {0}
StartsActive (deleted k name) = Unit {0}
StartsActive (restored k name) = ⊥

-- so a state may be the one that a system serves behind a point that does this with the snapshots,
-- and starts from the tree that is there
abbrev pub StepsTo : {S : Type 0} {G : Ghosts S} → SnapshotChange → (f : System S G) → (table : ℕ → Option Description) (s : State)
    → HasState f table s → State → Type 0
StepsTo change f table s serves t =
    (step : SnapshotStep) × IsStepFor change f step × StartsActive step × (t ≡ with_snapshots (kept_after step serves.first serves.snapshots) s)

-- the state of a volume after a step, over a root that holds another one and these snapshots
abbrev pub turned : Limits → Session → SnapshotStep → Volume → (ℕ → Option Description) → Volume → List (Name × Tree) → State
turned limits said step v table first snapshots = state_with limits said v table (kept_after step first snapshots)

-- so a state may be the one that a system serves behind a point that settles this memory
abbrev pub TurnsTo : {S : Type 0} {G : Ghosts S} → SnapshotChange → InodeFile → (base v : Volume) → (f : System S G) → (table : ℕ → Option Description) (s : State)
    → HasState f table s → State → Type 0
TurnsTo change memory base v f table s serves t =
    (step : SnapshotStep) × IsStepFor change f step × MayCheckpoint change f memory table base v
    × (t ≡ turned (limits_of f.root.geometry) f.session step v table serves.first serves.snapshots)

-- it is the same
abbrev pub StaysAt : {S : Type 0} {G : Ghosts S} → (f : System S G) → (table : ℕ → Option Description) (s : State)
    → HasState f table s → State → Type 0
StaysAt f table s serves t = t ≡ s

-- From one root to a later one the slots stay, and the root blocks of their snapshots.
pub record KeepsSlotsOn (root : Root) (disk : Blocks) (new : Root) (after : Blocks) : Type 0 where
  pub slots : new.snapshots ≡ root.snapshots
  pub heads : (k block : ℕ) → slot root k ≡ Block block → after block ≡ disk block
  pub later : root.generation ≤ new.generation
  pub geometry : new.geometry ≡ root.geometry

-- so they do from one system to another
abbrev pub KeepsSlots : {S : Type 0} {G : Ghosts S} → System S G → System S G → Type 0
KeepsSlots old new = KeepsSlotsOn old.root (blocks_of (disk_of old)) new.root (blocks_of (disk_of new))

-- What a consistency point does to a system of this meaning and this log, of which a state is
-- served so, and behind which it serves such a state; over a disk with room it is never refused for
-- space.
pub record MakesPointFrom {S : Type 0} {G : Ghosts S} (m : Meaning) (log_before : LogEnd) (Has : (ℕ → Option Description) → State → Type 0)
    (Leads : (table : ℕ → Option Description) (s : State) → Has table s → State → Type 0)
    (IsRoomy : Type 0) (new : System S G) (result : Result (Unit {0}) PointError) : Type 0 where
  pub counted : Counted m (meaning_of new) (point_failed result)
  pub any_moment : (table : ℕ → Option Description) (s : State) → (serves : Has table s) → (t : State) → Leads table s serves t
      → IsRoomy → LeavesOnly m (meaning_of new) (λ c. OpensTo m s c ⊎ OpensTo m t c)
  pub covered : (table : ℕ → Option Description) (s : State) → (serves : Has table s) → (t : State) → Leads table s serves t
      → IsRoomy → OnOk result (IsCovered new table t)
  pub refused : (table : ℕ → Option Description) (s : State) → Has table s → IfErr result (λ e. IsRefused e → HasState new table s)
  pub kept : IfErr result (λ e. IsRefused e → Goes Unchanged m (meaning_of new))
  pub unlogged : LogsNothing m (meaning_of new)
  pub generation : OnOk result (new.root.generation ≡ log_before.epoch)
  pub log : MatchResult result (λ _. new.log ≡ record log_before { epoch = log_before.epoch + 1; end = Unopened })
      (λ e. (IsRefused e × (new.log ≡ log_before)) ⊎ ((e ≡ NotWritten) × (new.log ≡ record log_before { epoch = log_before.epoch + 1; end = Unopened })))
  pub rests : new.blocks.pending ≡ None
  pub unchanged : OnOk result ((n : ℕ) → IsChanged new.inodes n → ⊥)
  pub roomy : (table : ℕ → Option Description) (s : State) → (serves : Has table s) → (t : State) → Leads table s serves t
      → IsRoomy → IsErrOf result (NotPlanned NoSpace) → ⊥
  pub damaged : (table : ℕ → Option Description) (s : State) → (serves : Has table s) → (t : State) → Leads table s serves t
      → IsErrOf result (NotPlanned Damaged) → ⊥
  pub last : (table : ℕ → Option Description) (s : State) → Has table s → IsErrOf result NoGeneration → 2 ^ 62 ≤ log_before.epoch
  pub past : IsErrOf result NoGeneration → IsNoGeneration log_before.epoch

abbrev pub MakesPoint : {S : Type 0} {G : Ghosts S} → ((f : System S G) → (table : ℕ → Option Description) (s : State) → HasState f table s → State → Type 0)
    → (System S G → Type 0) → (old new : System S G) → Result (Unit {0}) PointError → Type 0
MakesPoint Leads IsRoomy old new result = MakesPointFrom (meaning_of old) old.log (HasState old) (Leads old) (IsRoomy old) new result
