-- Functions that prepare a record.
use Rattle.std.specs.Prelude.{ℕ, IsErrOf, IsTrue, List, Result, IfErr, IfOk}
use Rattle.model.specs.declared.limits.Limits.{Limits}
use Rattle.layout.specs.StateLimits.{limits_of}
use Rattle.layout.specs.declared.inode.Inode.{Inode}
use Rattle.model.specs.Records.{Applies, Change}
use Rattle.model.specs.Volumes.{Volume}
use Rattle.buffers.specs.declared.blocks.Blocks.{Ghosts}
use Rattle.buffers.specs.Errors.{IsFault}
use Rattle.buffers.specs.declared.error.BlockError.TheVariants.{Damaged}
use Rattle.images.specs.Soundness.{Detail}
use Rattle.images.specs.Replaying.{LeavesPlace, ReadsIn}
use Rattle.inofile.specs.declared.inode_file.InodeFile.{InodeFile}
use Rattle.paths.specs.Standing.{Looks, OnVolumesIn, StandsIn}
use Rattle.records.specs.Failures.{read_outcome}
use Rattle.records.specs.Obstacles.{IsObstacle, tells_obstacle}
pub use Rattle.records.specs.Planning.{HasGraph, IsKnownVolume, Premise}
use Rattle.records.specs.Planning.{IsVolumeForEdit}
use Rattle.records.specs.Prepared.{DoesIn, IsReady}
use Rattle.records.specs.declared.failure.Failure.{Failure}
use Rattle.records.specs.declared.prepared.Prepared.{Prepared}

-- a volume where a directory has place for what a record moves there
abbrev pub IsVolumeFor : Detail → Limits → Change → Volume → Type 0
IsVolumeFor detail limits change v = IsVolumeForEdit detail limits change.edit v

-- A record is prepared, and does what it says to each volume of which `Over` is known; or the first
-- obstacle is told. That it applies, within the limits, or what is told, is true where `Sure` is
-- known. Nothing changes by it.
pub record DecidesOn {B : Type 0} (Over Sure : Premise) (G : Ghosts B) (blocks after : B) (s t : InodeFile) (change : Change) (result : Result Prepared Failure) : Type 0 where
  pub looks : Looks G IsFault blocks after s t (read_outcome result)
  pub own : IfOk (read_outcome result) (λ r. IfErr r (λ errno. IsTrue (tells_obstacle change errno)))
  pub ready : IfOk result (IsReady t)
  pub does : {detail : Detail} (disk : ℕ → List ℕ) (settled : ℕ → Inode) (v : Volume) → Over detail disk settled v
      → IfOk result (λ x. DoesIn detail disk settled t v x change)
  pub applies : {detail : Detail} (disk : ℕ → List ℕ) (settled : ℕ → Inode) (v : Volume) → Sure detail disk settled v
      → IfOk result (λ _. Applies (limits_of s.geometry) v change)
  pub place : {detail : Detail} (disk : ℕ → List ℕ) (settled : ℕ → Inode) (v : Volume) → Sure detail disk settled v
      → IfOk result (λ _. LeavesPlace (limits_of s.geometry) v change.edit)
  pub refused : {detail : Detail} (disk : ℕ → List ℕ) (settled : ℕ → Inode) (v : Volume) → Sure detail disk settled v
      → IsVolumeFor detail (limits_of s.geometry) change v → IfOk (read_outcome result) (λ r. IfErr r (IsObstacle (limits_of s.geometry) v change))
  pub reads : {detail : Detail} (disk : ℕ → List ℕ) (settled : ℕ → Inode) (v : Volume) → Sure detail disk settled v
      → IfOk result (λ _. ReadsIn detail v change.edit)
  pub damaged : {detail : Detail} → OnVolumesIn detail G blocks s (λ disk settled v. ReadsIn detail v change.edit → IsErrOf (read_outcome result) Damaged → ⊥)

-- the same of each volume that memory stands for
abbrev pub DecidesRecord : {B : Type 0} → Ghosts B → B → B → InodeFile → InodeFile → Change → Result Prepared Failure → Type 0
DecidesRecord G blocks after s t change result =
    DecidesOn (λ detail disk settled v. StandsIn detail G disk settled v blocks s) (λ detail disk settled v. StandsIn detail G disk settled v blocks s) G blocks after s t change result

-- the same, but that the record applies, or what is told, is true only of what is known to be a
-- volume
abbrev pub DecidesKnown : {B : Type 0} → Ghosts B → B → B → InodeFile → InodeFile → Change → Result Prepared Failure → Type 0
DecidesKnown G blocks after s t change result =
    DecidesOn (λ detail disk settled v. StandsIn detail G disk settled v blocks s) (λ detail disk settled v. StandsIn detail G disk settled v blocks s × IsKnownVolume detail (limits_of s.geometry) v) G blocks after s t change result
