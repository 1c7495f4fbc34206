-- What a mount reads, and what it makes of it.
use Rattle.std.specs.Prelude.{ℕ, ◌≡◌, ◌⊎◌, List, IsFalse, ◌<◌, ◌≤◌, ◌^◌}
use Rattle.layout.specs.StateLimits.{limits_of}
use Rattle.station.specs.Images.{Images}
use Rattle.station.specs.Moments.{Meaning, HasGrown}
use Rattle.layout.specs.Places.{Blocks, blocks_of}
use Rattle.layout.specs.Record.{Change}
use Rattle.layout.specs.Root.{IsRoot}
use Rattle.layout.specs.declared.root.Root.{Root}
use Rattle.model.specs.Paths.{Name}
use Rattle.model.specs.Records.{Replays, pledged_for, without_orphans}
use Rattle.model.specs.Trees.{Tree}
use Rattle.model.specs.Volumes.{Volume}
use Rattle.images.specs.Faults.{HasLog, IsFaultless}
use Rattle.images.specs.Roots.{Whole, whole}
use Rattle.images.specs.Snapshots.{AreSnapshots}
use Rattle.images.specs.Soundness.{IsReadable, IsWithin, by_sizes}
use Rattle.images.specs.States.{HasReserve, Holds, LogHoldsChanges}
use Rattle.inofile.specs.Room.{memory_room}
use Rattle.inofile.specs.Volumes.{IsVolumeIn}
use Rattle.inofile.specs.declared.inode_file.InodeFile.{InodeFile}
use Rattle.oplog.specs.LogEnd.{LogEnd}
use Rattle.oplog.specs.SavedLog.{Saved, StandsBehind, TellsLog}
use Rattle.loading.specs.Images.{inodes_of}
use Rattle.loading.specs.Slots.{FitsStation, IsNewestAt}
use Rattle.replay.specs.Volumes.{bodies_of}
use Rattle.system.specs.Memory.{HasEntries, IsInMemory}
use Rattle.system.specs.Systems.{Parts}
use Rattle.system.specs.declared.opening.FoundImages.{FoundImages}
use Rattle.system.specs.declared.opening.LoadedImage.{LoadedImage}

-- a device call failed
abbrev pub HasFailed : Meaning → Meaning → Type 0
HasFailed old new =
    HasGrown old.failed_reads new.failed_reads ⊎ HasGrown old.failed_writes new.failed_writes

-- a log was saved over a root
pub record IsSavedOver (r : Root) (saved : Saved) : Type 0 where
  pub root : IsRoot r
  pub half : saved.half ≡ r.geometry.half
  pub generation : saved.generation ≡ r.generation

-- What was found on a station: a root of its size, and the log that was saved over it.
pub record IsFound (f : FoundImages) (m : Meaning) : Type 0 where
  pub over : IsSavedOver f.newest.root f.saved
  pub fits : FitsStation f.newest.root m

-- it is what these images have
pub record IsOf (c : Images) (f : FoundImages) : Type 0 where
  pub newest : IsNewestAt f.newest.slot f.newest.root c.disk
  pub saved : TellsLog c.nvram f.saved

-- an NVRAM holds some bodies over a root of this generation, and the log ends behind them
abbrev pub HoldsSome : LogEnd → ℕ → List ℕ → Type 0
HoldsSome log g nvram = (bodies : List (List ℕ)) × StandsBehind log g nvram bodies

-- no fault stands in the tree of a root, whose files are no larger than its version allows, and its
-- block map can be read
pub record IsFaultlessTree (r : Root) (w : Whole) : Type 0 where
  pub active : IsFaultless r.geometry w.active
  pub within : IsWithin r.version w.active
  pub readable : IsReadable (w.active 2)

-- Every record of the log over a root was applied: they apply one after the other over the volume
-- of the root's tree, the log ends behind them, and memory stands for the volume that they lead to,
-- without the files that have no name.
pub record HasReplayed (disk : Blocks) (nvram : List ℕ) (r : Root) (log : LogEnd)
    (inodes : InodeFile) : Type 0 where
  pub changes : List Change
  pub records : HasLog r (whole disk r) nvram changes
  pub ends : StandsBehind log r.generation nvram (bodies_of changes)
  pub memory : IsVolumeIn by_sizes r.geometry.blocks disk (inodes_of (whole disk r).active) inodes
      (without_orphans records.last)

-- What a mount has read under a root, whatever else the images hold: a log that ends here;
-- snapshots, in each slot that isn't free; and where no fault stands in the root's tree, every
-- record was applied.
pub record HasRead (disk : Blocks) (nvram : List ℕ) (r : Root) (log : LogEnd)
    (inodes : InodeFile) : Type 0 where
  pub held : HoldsSome log r.generation nvram
  pub snapshots : AreSnapshots r (whole disk r)
  pub replayed : IsFaultlessTree r (whole disk r) → HasReplayed disk nvram r log inodes

-- What a mount found on a station of this meaning, whatever else its images hold: the newest root
-- of the disk, which fits the station, in its slot, and what it has read under that.
pub record HasNewest (m : Meaning) (k : Parts) : Type 0 where
  pub newest : IsNewestAt k.slot k.root m.seen.disk
  pub fits : FitsStation k.root m
  pub read : HasRead (blocks_of m.seen.disk) m.seen.nvram k.root k.log k.inodes

-- what memory has fits a root
pub record MemoryFitsRoot (r : Root) (p : LoadedImage) : Type 0 where
  pub half : p.log.half ≡ r.geometry.half
  pub sizes : p.inodes.geometry ≡ r.geometry
  pub count : p.map.count ≡ r.geometry.blocks
  pub runs : IsFalse p.log.is_stopped
  pub few : p.pledged < 2 ^ 32

-- A disk holds a volume and snapshots under a root, and an NVRAM the records that lead from there
-- to another volume; and it has room for these.
pub record HoldsRecords (disk : Blocks) (r : Root) (nvram : List ℕ) (first last : Volume)
    (snapshots : List (Name × Tree)) (changes : List Change) : Type 0 where
  pub holds : Holds r (whole disk r) first snapshots
  pub log : LogHoldsChanges r nvram changes
  pub replays : Replays (limits_of r.geometry) first changes last
  pub room : HasReserve r (whole disk r) first changes

-- Memory has the log's end behind these records, and the volume that they lead to, without the
-- files that have no name; and what is pledged for them: memory needs no more.
pub record HasImage (disk : Blocks) (r : Root) (nvram : List ℕ) (first last : Volume)
    (changes : List Change) (p : LoadedImage) : Type 0 where
  pub log : StandsBehind p.log r.generation nvram (bodies_of changes)
  pub memory : IsInMemory disk r p.inodes (without_orphans last)
  pub entries : HasEntries (whole disk r).active p.map
  pub pledges : p.pledged ≡ pledged_for (limits_of r.geometry) first changes
  pub stored : memory_room first p.inodes (without_orphans last) ≤ p.pledged
