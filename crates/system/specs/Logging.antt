-- What a record does that a system logs.
use Rattle.std.specs.Prelude.{ℕ, ◌≡◌, ◌≤◌, ◌⊎◌, ◌∷◌, ◌++◌, [], List, OnOk, IsErrOf, Option, Result}
use Rattle.model.specs.declared.limits.Limits.{Limits}
use Rattle.layout.specs.StateLimits.{limits_of}
use Rattle.station.specs.Moments.{LeavesOnly}
use Rattle.station.specs.declared.station.Station.{Ghosts}
use Rattle.layout.specs.Places.{blocks_of}
use Rattle.layout.specs.Record.{IsChange}
use Rattle.model.specs.Records.{Change, Applies, applied, work_of}
use Rattle.model.specs.States.{State}
use Rattle.model.specs.Trees.{Description}
use Rattle.model.specs.Volumes.{Volume, IsMounted, swept}
use Rattle.records.specs.Prepared.{Does}
use Rattle.records.specs.declared.prepared.Prepared.{Prepared}
use Rattle.descriptors.specs.Fits.{FitsVolume}
use Rattle.descriptors.specs.Tables.{table_of}
use Rattle.descriptors.specs.declared.table.Descriptors.{Descriptors}
use Rattle.inofile.specs.Room.{memory_room}
use Rattle.inofile.specs.Volumes.{IsVolumeOf}
use Rattle.inofile.specs.declared.inode_file.InodeFile.{InodeFile}
use Rattle.images.specs.Roots.{whole}
use Rattle.loading.specs.Images.{inodes_of}
use Rattle.oplog.specs.declared.log.AppendError.{AppendError}
use Rattle.system.specs.Images.{OpensTo}
use Rattle.system.specs.Room.{HasRoomForWork}
use Rattle.system.specs.Serving.{LeavesEither}
use Rattle.system.specs.Systems.{HasState, IsServingWith, ServesWith, disk_of, meaning_of, state_with, system_parts}
use Rattle.system.specs.declared.error.CallError.{CallError}
use Rattle.system.specs.declared.error.CallError.TheVariants.{NoRoom}
use Rattle.system.specs.declared.system.System.{System}

-- a record applies to a volume within limits, and leads to one that these descriptors fit once
-- the files are dropped that it leaves with neither name nor descriptor
pub record Advances (limits : Limits) (running : Volume) (table : ℕ → Option Description)
    (change : Change) : Type 0 where
  pub is : IsChange limits.has_attributes change
  pub applies : Applies limits running change
  pub mounted : IsMounted (swept table (applied change running)) table

-- once memory stands for a volume, over the disk of a system, and needs no more than is pledged,
-- and the open files fit it, the system serves a state by it, with these records beside the root,
-- which holds the first volume
abbrev pub WouldServe : {S : Type 0} {G : Ghosts S} → System S G → System S G → Volume → Volume
    → List Change → (ℕ → Option Description) → State → Type 0
WouldServe old new first running changes table s =
    let disk = blocks_of (disk_of old) in
    let settled = inodes_of (whole disk old.root).active in
    (inodes : InodeFile) (files : Descriptors)
    → IsVolumeOf old.root.geometry.blocks disk settled inodes running
    → memory_room first inodes running ≤ new.pledged_then
    → table ≡ table_of files → FitsVolume files running
    → IsServingWith (meaning_of new) (record (system_parts new) { inodes = inodes; files = files }) table s
    running changes

-- What putting a record that applies into the log does at a state that a system serves: a cut
-- leaves that state or the one that the record leads to; and once the record is there the system
-- serves that, as soon as memory follows.
pub record Appends {S : Type 0} {G : Ghosts S} (old new : System S G) (table : ℕ → Option Description) (s : State) (serves : HasState old table s)
    (change : Change) (result : Result (Unit {0}) AppendError) : Type 0 where
  pub any_moment : let after = swept table (applied change serves.running) in
      LeavesOnly (meaning_of old) (meaning_of new) (λ c. OpensTo (meaning_of old) s c
      ⊎ OpensTo (meaning_of old) (state_with (limits_of old.root.geometry) old.session after table serves.snapshots) c)
  pub logged : let after = swept table (applied change serves.running) in
      OnOk result (WouldServe old new serves.first after (serves.lasts.replayed.changes ++ change ∷ []) table
      (state_with (limits_of old.root.geometry) old.session after table serves.snapshots))

-- put in force on a system with this running volume, a prepared change does what the record says
abbrev pub DoesOver : {S : Type 0} {G : Ghosts S} → System S G → Volume → Prepared → Change → Type 0
DoesOver f running prepared change =
    let disk = blocks_of (disk_of f) in
    Does disk (inodes_of (whole disk f.root).active) f.inodes running prepared change

-- What logging a record with its prepared change does at a state that a system serves: the disk has
-- room for it, or the system lacks that; and where it applies a cut leaves the state before it or
-- the one that it leads to, which the system serves then.
pub record LogsAt {S : Type 0} {G : Ghosts S} (old new : System S G) (table : ℕ → Option Description) (s : State) (serves : HasState old table s)
    (change : Change) (prepared : Prepared) (result : Result (Unit {0}) CallError) : Type 0 where
  pub room : OnOk result (HasRoomForWork old (work_of serves.running change))
  pub short : IsErrOf result NoRoom → HasRoomForWork new (work_of serves.running change) → ⊥
  pub any_moment : Advances (limits_of old.root.geometry) serves.running table change
      → let after = swept table (applied change serves.running) in
      LeavesEither (meaning_of old) (meaning_of new) s (state_with (limits_of old.root.geometry) old.session after table serves.snapshots)
  pub done : Advances (limits_of old.root.geometry) serves.running table change → DoesOver old serves.running prepared change
      → let after = swept table (applied change serves.running) in
      OnOk result (ServesWith new table (state_with (limits_of old.root.geometry) old.session after table serves.snapshots) after
      (serves.lasts.replayed.changes ++ change ∷ []))
