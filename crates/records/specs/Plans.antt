-- Plan changes of the image in memory.
use Rattle.std.specs.Prelude.{ℕ, ◌+◌, ◌≤◌, List, Option, Some, None}
use Rattle.layout.specs.declared.inode.Inode.{Inode}
use Rattle.model.specs.Records.{Edit, edited, set_file, truncate, work_by, write}
use Rattle.model.specs.Room.{cost}
use Rattle.model.specs.Volumes.{Volume}
use Rattle.images.specs.Soundness.{Detail, by_bytes}
use Rattle.inofile.specs.Inodes.{IsKnown}
use Rattle.inofile.specs.declared.inode_file.InodeFile.{InodeFile}
use Rattle.records.specs.Room.{SomeRoom, StepRoom, step_costs}
use Rattle.records.specs.Steps.{IsAtHand, IsBeside, IsSomeApart, IsSomeAtHand, Steps, StepsSome, TakesSome, TakesUpdate}
use Rattle.records.specs.declared.plans.Plan.{Plan}
use Rattle.records.specs.declared.steps.ObjectUpdate.{ObjectUpdate}

-- a step, if there is one, doesn't depend on what another one, if there is one, does to memory
abbrev pub IsApartFrom : Option ObjectUpdate → Option ObjectUpdate → Type 0
IsApartFrom None step = Unit {0}
IsApartFrom (Some other) step = IsSomeApart other.number step

-- a step, if there is one, isn't of the same number as another one, if there is one
abbrev pub AreBeside : Option ObjectUpdate → Option ObjectUpdate → Type 0
AreBeside None step = Unit {0}
AreBeside (Some other) step = IsBeside other.number step

-- memory has room for all that a plan sets
pub record IsPlanReady (s : InodeFile) (p : Plan) : Type 0 where
  pub first : TakesUpdate s p.first.number p.first.update
  pub next : TakesSome s p.next
  pub last : TakesSome s p.last
  pub next_apart : IsSomeApart p.first.number p.next
  pub last_apart : IsSomeApart p.first.number p.last
  pub apart : IsApartFrom p.next p.last

-- what a plan sets is in memory, with room for a change of it
pub record IsPlanAtHand (s : InodeFile) (p : Plan) : Type 0 where
  pub first : IsAtHand s p.first.number
  pub next : IsSomeAtHand s p.next
  pub last : IsSomeAtHand s p.last

-- the file that an edit writes to or gives a size is in memory
abbrev pub KnowsEdited : InodeFile → Edit → Type 0
KnowsEdited s (write number offset bytes) = IsKnown s number
KnowsEdited s (truncate number size) = IsKnown s number
KnowsEdited s (set_file number mode size) = IsKnown s number
KnowsEdited s edit = Unit {0}

-- Put in force on this memory, which stands for this volume in so much detail, a plan edits it so:
-- each of its steps is on an object of its own. Each raises by so much at the most what a
-- consistency point may store, and all of them by no more than steps cost for such an edit.
pub record DoesEditIn (detail : Detail) (disk : ℕ → List ℕ) (settled : ℕ → Inode) (s : InodeFile) (v : Volume) (p : Plan) (edit : Edit) : Type 0 where
  pub between : Volume
  pub second : Volume
  pub first : Steps detail disk settled s v p.first between
  pub next : StepsSome detail disk settled s between p.next second
  pub last : StepsSome detail disk settled s second p.last (edited edit v)
  pub next_beside : IsBeside p.first.number p.next
  pub last_beside : IsBeside p.first.number p.last
  pub beside : AreBeside p.next p.last
  pub firsts : ℕ
  pub nexts : ℕ
  pub lasts : ℕ
  pub first_room : StepRoom s p.first firsts
  pub next_room : SomeRoom s p.next nexts
  pub last_room : SomeRoom s p.last lasts
  pub within : firsts + nexts + lasts ≤ cost step_costs (work_by v edit)
  pub knows : KnowsEdited s edit

abbrev pub DoesEdit : (ℕ → List ℕ) → (ℕ → Inode) → InodeFile → Volume → Plan → Edit → Type 0
DoesEdit = DoesEditIn by_bytes
