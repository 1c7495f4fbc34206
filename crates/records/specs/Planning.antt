-- Functions that plan an edit.
use Rattle.std.specs.Prelude.{ℕ, ◌≡◌, ◌⊎◌, ◌<◌, ◌≤◌, IsErrOf, IsSome, IsTrue, List, Result, IfErr, IfOk}
use Rattle.model.specs.declared.limits.Limits.{Limits}
use Rattle.layout.specs.StateLimits.{limits_of}
use Rattle.layout.specs.declared.inode.Inode.{Inode}
use Rattle.model.specs.Records.{CanEdit, Edit}
use Rattle.model.specs.Volumes.{Volume, IsGraph, IsVolume}
use Rattle.model.specs.declared.limits.TheConstants.{FIRST_NUMBER, ROOT_NUMBER}
use Rattle.buffers.specs.declared.blocks.Blocks.{Ghosts}
use Rattle.buffers.specs.Errors.{IsFault}
use Rattle.buffers.specs.declared.error.BlockError.TheVariants.{Damaged}
use Rattle.images.specs.Soundness.{Detail, by_bytes, by_sizes}
use Rattle.inofile.specs.declared.inode_file.InodeFile.{InodeFile}
use Rattle.paths.specs.Standing.{Looks, OnVolumesIn, StandsIn}
use Rattle.records.specs.Failures.{read_outcome}
use Rattle.records.specs.Obstacles.{BarsEdit, may_bar}
use Rattle.images.specs.Replaying.{LeavesPlace, ReadsIn}
use Rattle.records.specs.Plans.{DoesEditIn, IsPlanReady}
use Rattle.records.specs.declared.failure.Failure.{Failure}
use Rattle.records.specs.declared.plans.Plan.{Plan}

-- what is known of a volume that memory stands for in so much detail
abbrev pub Premise : Type 1
Premise = Detail → (ℕ → List ℕ) → (ℕ → Inode) → Volume → Type 0

-- what a volume has, but for limits: these aren't known where files are known by their sizes alone
pub record HasGraph (inodes : ℕ) (v : Volume) : Type 0 where
  pub graph : IsGraph v
  pub numbers : (n : ℕ) → IsSome (v n) → (n ≡ ROOT_NUMBER) ⊎ ((FIRST_NUMBER ≤ n) × (n < inodes))

-- a volume that memory stands for in so much detail
abbrev pub IsKnownVolume : Detail → Limits → Volume → Type 0
IsKnownVolume by_bytes limits v = IsVolume limits v
IsKnownVolume by_sizes limits v = HasGraph limits.inodes v

-- the same where a directory has place for what an edit moves there
abbrev pub IsVolumeForEdit : Detail → Limits → Edit → Volume → Type 0
IsVolumeForEdit by_bytes limits edit v = IsVolume limits v
IsVolumeForEdit by_sizes limits edit v = HasGraph limits.inodes v × LeavesPlace limits v edit

-- An edit is planned, and the plan does it to each volume of which `Over` is known; or the first
-- obstacle is told. That it can be done, within the limits, or what is told, is true where `Sure` is
-- known. Nothing changes by it.
pub record DecidesEditOn {B : Type 0} (Over Sure : Premise) (G : Ghosts B) (blocks after : B) (s t : InodeFile) (edit : Edit) (result : Result Plan Failure) : Type 0 where
  pub looks : Looks G IsFault blocks after s t (read_outcome result)
  pub own : IfOk (read_outcome result) (λ r. IfErr r (λ errno. IsTrue (may_bar edit errno)))
  pub ready : IfOk result (IsPlanReady t)
  pub does : {detail : Detail} (disk : ℕ → List ℕ) (settled : ℕ → Inode) (v : Volume) → Over detail disk settled v
      → IfOk result (λ x. DoesEditIn detail disk settled t v x edit)
  pub applies : {detail : Detail} (disk : ℕ → List ℕ) (settled : ℕ → Inode) (v : Volume) → Sure detail disk settled v
      → IfOk result (λ _. CanEdit (limits_of s.geometry) v edit)
  pub place : {detail : Detail} (disk : ℕ → List ℕ) (settled : ℕ → Inode) (v : Volume) → Sure detail disk settled v
      → IfOk result (λ _. LeavesPlace (limits_of s.geometry) v edit)
  pub refused : {detail : Detail} (disk : ℕ → List ℕ) (settled : ℕ → Inode) (v : Volume) → Sure detail disk settled v
      → IsVolumeForEdit detail (limits_of s.geometry) edit v → IfOk (read_outcome result) (λ r. IfErr r (BarsEdit (limits_of s.geometry) v edit))
  pub reads : {detail : Detail} (disk : ℕ → List ℕ) (settled : ℕ → Inode) (v : Volume) → Sure detail disk settled v
      → IfOk result (λ _. ReadsIn detail v edit)
  pub damaged : {detail : Detail} → OnVolumesIn detail G blocks s (λ disk settled v. ReadsIn detail v edit → IsErrOf (read_outcome result) Damaged → ⊥)

-- the same of each volume that memory stands for
abbrev pub DecidesEdit : {B : Type 0} → Ghosts B → B → B → InodeFile → InodeFile → Edit → Result Plan Failure → Type 0
DecidesEdit G blocks after s t edit result =
    DecidesEditOn (λ detail disk settled v. StandsIn detail G disk settled v blocks s) (λ detail disk settled v. StandsIn detail G disk settled v blocks s) G blocks after s t edit result
