-- What a function promises that prepares the change of a call.
use Rattle.std.specs.Prelude.{ℕ, ◌≡◌, Option, Some, Result, IfOk, IfErr, IfSome, IsTrue, is_some}
use Rattle.model.specs.declared.limits.Limits.{Limits}
use Rattle.layout.specs.Record.{Change, FitsAttributes}
use Rattle.layout.specs.StateLimits.{limits_of}
use Rattle.model.specs.Trees.{Description}
use Rattle.model.specs.Volumes.{Volume}
use Rattle.model.specs.declared.errno.Errno.{Errno}
use Rattle.model.specs.declared.time.Time.{Time}
use Rattle.buffers.specs.Errors.{IsFault}
use Rattle.buffers.specs.declared.blocks.Blocks.{Ghosts}
use Rattle.inofile.specs.declared.inode_file.InodeFile.{InodeFile}
use Rattle.paths.specs.Standing.{Looks}
use Rattle.records.specs.Failures.{read_outcome}
use Rattle.records.specs.Prepared.{Does, IsReady}
use Rattle.records.specs.Shown.{NeverDamaged, OnMounted, OnVolumes}
use Rattle.records.specs.declared.failure.Failure.{Failure}
use Rattle.calls.specs.Changing.{change_by}
use Rattle.calls.specs.Refusals.{is_path_refusal}
use Rattle.calls.specs.declared.changed.Changing.{Changing}
use Rattle.calls.specs.declared.preparing.open.Opened.{Opened}

-- what a call comes to on a volume within limits, with these descriptors
abbrev pub Answer : Type 0 → Type 1
Answer T = Limits → Volume → (ℕ → Option Description) → Result T Errno → Type 0

-- memory has room for what is to be changed, if anything is
abbrev pub Readies : {T : Type 0} → (T → Option Changing) → InodeFile → Result T Failure → Type 0
Readies changes s result = IfOk result (λ x. IfSome (changes x) (λ c. IsReady s c.prepared))

-- a change is so at this time, and gives an object no more than is kept where calls have one
abbrev pub IsTimed : Option Time → Change → Type 0
IsTimed now change = (change.time ≡ now) × FitsAttributes (is_some now) change.edit

-- what is to be changed is so at this time
abbrev pub AreTimed : {T : Type 0} → (T → Option Changing) → Option Time → Result T Failure → Type 0
AreTimed changes now result = IfOk result (λ x. IfSome (changes x) (λ c. IsTimed now (change_by c)))

-- put in force, what is prepared does what its record says
abbrev pub WillDo : {B T : Type 0} → (T → Option Changing) → Ghosts B → B → InodeFile → InodeFile → Result T Failure → Type 0
WillDo changes G blocks s after result =
    OnVolumes G blocks s
    (λ disk settled v. IfOk result (λ x. IfSome (changes x) (λ c. Does disk settled after v c.prepared (change_by c))))

-- Nothing is done but looking; the call is refused by an errno of paths, or what it is to change is
-- prepared for this time, with room for it in memory, and does what its record says; and over memory
-- that stands for a volume this is the answer, and no damage is found.
pub record PreparesWith {B T : Type 0} (changes : T → Option Changing) (now : Option Time) (G : Ghosts B) (blocks after : B) (s t : InodeFile)
    (answer : Answer T) (result : Result T Failure) : Type 0 where
  pub looks : Looks G IsFault blocks after s t (read_outcome result)
  pub own : IfOk (read_outcome result) (λ r. IfErr r (λ e. IsTrue (is_path_refusal e)))
  pub ready : Readies changes t result
  pub timed : AreTimed changes now result
  pub does : WillDo changes G blocks s t result
  pub answers : OnMounted G blocks s (λ v table. IfOk (read_outcome result) (answer (limits_of s.geometry) v table))
  pub damaged : NeverDamaged G blocks s (read_outcome result)

-- this of a call that changes something where it isn't refused
abbrev pub Prepares : {B : Type 0} → Option Time → Ghosts B → B → B → InodeFile → InodeFile → Answer Changing → Result Changing Failure → Type 0
Prepares now G blocks after s t answer result = PreparesWith (λ c. Some c) now G blocks after s t answer result

-- this of a call that may find nothing to change
abbrev pub PreparesAny : {B : Type 0} → Option Time → Ghosts B → B → B → InodeFile → InodeFile → Answer (Option Changing) → Result (Option Changing) Failure → Type 0
PreparesAny now G blocks after s t answer result = PreparesWith (λ o. o) now G blocks after s t answer result

-- this of a part of a call that may find nothing to change, where so much is known of a volume
pub record PreparesKnowing {B : Type 0} (Known : Volume → Type 0) (now : Option Time) (G : Ghosts B) (blocks after : B) (s t : InodeFile)
    (answer : Answer (Option Changing)) (result : Result (Option Changing) Failure) : Type 0 where
  pub looks : Looks G IsFault blocks after s t (read_outcome result)
  pub own : IfOk (read_outcome result) (λ r. IfErr r (λ e. IsTrue (is_path_refusal e)))
  pub ready : Readies (λ o. o) t result
  pub timed : AreTimed (λ o. o) now result
  pub does : OnVolumes G blocks s
      (λ disk settled v. Known v → IfOk result (λ x. IfSome x (λ c. Does disk settled t v c.prepared (change_by c))))
  pub answers : OnMounted G blocks s (λ v table. Known v → IfOk (read_outcome result) (answer (limits_of s.geometry) v table))
  pub damaged : NeverDamaged G blocks s (read_outcome result)

-- this of opening a file, where it may be made or truncated
abbrev pub PreparesOpening : {B : Type 0} → Option Time → Ghosts B → B → B → InodeFile → InodeFile → Answer Opened → Result Opened Failure → Type 0
PreparesOpening now G blocks after s t answer result = PreparesWith (λ o. o.changing) now G blocks after s t answer result
