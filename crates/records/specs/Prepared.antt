-- Prepared changes of the image in memory.
use Rattle.std.specs.Prelude.{ℕ, ◌≡◌, List, IfOk, IfSome, Result}
use Rattle.layout.specs.StateLimits.{limits_of}
use Rattle.layout.specs.declared.inode.Inode.{Inode}
use Rattle.model.specs.Attributes.{KeepsTime}
use Rattle.model.specs.Records.{Change, touches_of}
use Rattle.model.specs.Volumes.{Volume}
use Rattle.buffers.specs.declared.blocks.Blocks.{Ghosts}
use Rattle.buffers.specs.declared.error.BlockError.{BlockError}
use Rattle.images.specs.Soundness.{Detail, by_bytes}
use Rattle.inofile.specs.declared.inode_file.InodeFile.{InodeFile}
use Rattle.records.specs.Marks.{AreMarkedAtHand, BringsBeside, touches_in}
use Rattle.records.specs.Plans.{DoesEditIn, IsPlanAtHand, IsPlanReady, KnowsEdited}
use Rattle.records.specs.declared.marks.Marks.{Marks}
use Rattle.records.specs.declared.plans.Plan.{Plan}
use Rattle.records.specs.declared.prepared.Prepared.{Prepared}

-- memory has room for all that a prepared change sets, and the file system keeps its time
pub record IsReady (s : InodeFile) (p : Prepared) : Type 0 where
  pub plan : IsPlanReady s p.plan
  pub marks : AreMarkedAtHand s p.marks
  pub time : KeepsTime (limits_of s.geometry).has_attributes p.marks.time

-- what a prepared change sets is in memory, with room for a change of it
pub record AreAtHand (s : InodeFile) (p : Prepared) : Type 0 where
  pub plan : IsPlanAtHand s p.plan
  pub marks : AreMarkedAtHand s p.marks

-- the file that a record writes to or gives a size is in memory
abbrev pub KnowsFile : InodeFile → Change → Type 0
KnowsFile s change = KnowsEdited s change.edit

-- Put in force on this memory, which stands for this volume in so much detail, a prepared change
-- does to it what the record says, and touches at its time what the record touches.
pub record DoesIn (detail : Detail) (disk : ℕ → List ℕ) (settled : ℕ → Inode) (s : InodeFile) (v : Volume) (p : Prepared) (change : Change) : Type 0 where
  pub edit : DoesEditIn detail disk settled s v p.plan change.edit
  pub time : p.marks.time ≡ change.time
  pub touches : IfSome change.time (λ time. touches_in p.marks ≡ touches_of change.edit v)

abbrev pub Does : (ℕ → List ℕ) → (ℕ → Inode) → InodeFile → Volume → Prepared → Change → Type 0
Does = DoesIn by_bytes

-- A plan is completed by what is touched beside it, which comes into memory: all that memory knew it
-- has as it was.
pub record Completes {B : Type 0} (G : Ghosts B) (blocks after : B) (s t : InodeFile) (plan : Plan) (marks : Marks) (result : Result Prepared BlockError) : Type 0 where
  pub brings : BringsBeside G blocks after s t (λ u. AreMarkedAtHand u marks) result
  pub is : IfOk result (λ p. p ≡ record { plan = plan; marks = marks })
