-- The volume that memory stands for, and records that lead from one to another.
use Rattle.std.specs.Prelude.{ℕ, ◌≡◌, ◌⊎◌, ◌+◌, ◌≤◌, Bool, List, [], ◌∷◌, All, Result, MatchResult, map}
use Rattle.model.specs.declared.limits.Limits.{Limits}
use Rattle.layout.specs.StateLimits.{limits_of}
use Rattle.layout.specs.Log.{HoldsBodies, LogHolds}
use Rattle.layout.specs.Record.{Change, IsChange, change_bytes}
use Rattle.layout.specs.declared.inode.Inode.{Inode}
use Rattle.model.specs.Records.{Applies, Replays, applied, cost_of_all}
use Rattle.model.specs.Volumes.{Volume}
use Rattle.model.specs.declared.costs.Costs.{Costs}
use Rattle.buffers.specs.declared.error.BlockError.{BlockError}
use Rattle.buffers.specs.declared.error.BlockError.TheVariants.{NoMemory, Device}
use Rattle.images.specs.Replaying.{AppliesWithin, ReplaysWithin}
use Rattle.images.specs.Soundness.{Detail, by_bytes, by_sizes}
use Rattle.inofile.specs.Room.{memory_room}
use Rattle.inofile.specs.Volumes.{IsVolumeIn}
use Rattle.inofile.specs.declared.inode_file.InodeFile.{InodeFile}
use Rattle.oplog.specs.SavedLog.{HoldsLeaving, Saved}
use Rattle.records.specs.Preparing.{IsKnownVolume}
use Rattle.replay.specs.declared.replaying.ReplayedHalf.{ReplayedHalf}

-- an answer of which this is true, but where memory ran out or a device call failed
abbrev pub ComesTo : {T : Type 0} → Result T BlockError → (T → Type 0) → Type 0
ComesTo result P = MatchResult result P (λ e. (e ≡ NoMemory) ⊎ (e ≡ Device))

-- memory stands for this volume, in so much detail, over a disk of so many blocks with these inodes
-- settled
pub record HasVolumeIn (detail : Detail) (count : ℕ) (disk : ℕ → List ℕ) (settled : ℕ → Inode) (s : InodeFile) (v : Volume) : Type 0 where
  pub memory : IsVolumeIn detail count disk settled s v
  pub volume : IsKnownVolume detail (limits_of s.geometry) v

abbrev pub HasVolume : ℕ → (ℕ → List ℕ) → (ℕ → Inode) → InodeFile → Volume → Type 0
HasVolume = HasVolumeIn by_bytes

-- what a consistency point may store, over any base, rises by so much at the most from this memory
-- of a volume to that
abbrev pub RaisesRoom : InodeFile → Volume → InodeFile → Volume → ℕ → Type 0
RaisesRoom s v t w k = (base : Volume) → memory_room base t w ≤ memory_room base s v + k

-- the body of a record of the log, where objects have times or not
pub record SpellsRecord (has_attributes : Bool) (body : List ℕ) (change : Change) : Type 0 where
  pub is : IsChange has_attributes change
  pub spelled : body ≡ change_bytes change

-- the bodies of records
abbrev pub bodies_of : List Change → List (List ℕ)
bodies_of changes = map change_bytes changes

-- records that apply one after the other lead from one volume to another: within the limits, where
-- the volumes may pass them
abbrev pub ReplaysFor : Detail → Limits → Volume → List Change → Volume → Type 0
ReplaysFor by_bytes limits v changes w = Replays limits v changes w
ReplaysFor by_sizes limits v changes w = ReplaysWithin limits v changes w

-- the same record by record
abbrev pub AppliesIn : Detail → Limits → Volume → Change → Type 0
AppliesIn by_bytes limits v change = Applies limits v change
AppliesIn by_sizes limits v change = AppliesWithin limits v change

abbrev pub ReplaysIn : Detail → Limits → Volume → List Change → Volume → Type 0
ReplaysIn detail limits v [] w = w ≡ v
ReplaysIn detail limits v (change ∷ changes) w = AppliesIn detail limits v change × ReplaysIn detail limits (applied change v) changes w

-- the bytes from a gate on hold these records, which lead from one volume to another
pub record LeadTo (detail : Detail) (limits : Limits) (records : List ℕ) (changes : List Change) (old new : Volume) : Type 0 where
  pub are : All (IsChange limits.has_attributes) changes
  pub held : HoldsBodies records (bodies_of changes)
  pub replays : ReplaysIn detail limits old changes new

-- the bytes from a gate on hold some records that lead on from a volume
abbrev pub LeadSomewhere : Detail → Limits → List ℕ → Volume → Type 0
LeadSomewhere detail limits records old =
    (changes : List Change) × (new : Volume) × LeadTo detail limits records changes old new

-- What is left behind the records from a gate on, and what these cost.
pub record HasReplayed (costs : Costs) (records : List ℕ) (changes : List Change) (v : Volume) (r : ReplayedHalf) : Type 0 where
  pub held : HoldsLeaving records (bodies_of changes) r.left
  pub cost : r.cost ≡ cost_of_all costs v changes

-- the log that was saved over a root holds these records, which lead from one volume to another
pub record SavesRecordsIn (detail : Detail) (limits : Limits) (nvram : List ℕ) (saved : Saved) (changes : List Change) (old new : Volume) : Type 0 where
  pub are : All (IsChange limits.has_attributes) changes
  pub held : LogHolds saved.half saved.generation nvram (bodies_of changes)
  pub replays : ReplaysFor detail limits old changes new

-- it holds some records that lead on from a volume
abbrev pub SavesSomeIn : Detail → Limits → List ℕ → Saved → Volume → Type 0
SavesSomeIn detail limits nvram saved old =
    (changes : List Change) × (new : Volume) × SavesRecordsIn detail limits nvram saved changes old new

abbrev pub SavesRecords : Limits → List ℕ → Saved → List Change → Volume → Volume → Type 0
SavesRecords = SavesRecordsIn by_bytes
