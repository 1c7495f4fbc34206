-- What calls on descriptors promise that prepare a change.
use Rattle.std.specs.Prelude.{Option, None, Result, IfErr, IfOk, IfSome, IsTrue}
use Rattle.model.specs.Records.{Change}
use Rattle.model.specs.Volumes.{Volume}
use Rattle.model.specs.declared.errno.Errno.{Errno}
use Rattle.model.specs.declared.time.Time.{Time}
use Rattle.buffers.specs.Errors.{IsFault}
use Rattle.buffers.specs.declared.error.BlockError.{BlockError}
use Rattle.buffers.specs.declared.blocks.Blocks.{Ghosts}
use Rattle.inofile.specs.declared.inode_file.InodeFile.{InodeFile}
use Rattle.paths.specs.Loads.{IsAny}
use Rattle.paths.specs.Standing.{Looks}
use Rattle.records.specs.Failures.{read_outcome}
use Rattle.records.specs.Prepared.{Does, IsReady}
use Rattle.records.specs.Shown.{NeverDamaged, OnVolumes}
use Rattle.records.specs.declared.failure.Failure.{Failure}
use Rattle.records.specs.declared.prepared.Prepared.{Prepared}
use Rattle.calls.specs.Changing.{change_by}
use Rattle.calls.specs.Preparing.{IsTimed}
use Rattle.calls.specs.Refusals.{is_path_refusal}
use Rattle.calls.specs.declared.changed.Changing.{Changing}
use Rattle.descriptors.specs.declared.table.Descriptors.{Descriptors}
use Rattle.files.specs.Opened.{OnOpen}

-- what is said of each change that something prepares, and of its record
abbrev pub Changes : Type 0 → Type 1
Changes T = T → (Prepared → Change → Type 0) → Type 0

-- what is prepared, if anything is
abbrev pub of_changing : Changes (Option Changing)
of_changing o P = IfSome o (λ c. P c.prepared (change_by c))

-- Nothing is done but looking. The call is refused by an errno of paths; or what it is to change is
-- prepared for this time, with room for it in memory, and does what its record says. What is told
-- of it, is told; and no damage is found.
pub record PreparesTold {B T : Type 0} (changes : Changes T) (IsWithin : T → Type 0) (now : Option Time) (G : Ghosts B) (blocks after : B) (s t : InodeFile) (Told : Result (Result T Errno) BlockError → Type 0)
    (result : Result T Failure) : Type 0 where
  pub looks : Looks G IsFault blocks after s t (read_outcome result)
  pub own : IfOk (read_outcome result) (λ r. IfErr r (λ e. IsTrue (is_path_refusal e)))
  pub within : IfOk result IsWithin
  pub ready : IfOk result (λ x. changes x (λ p change. IsReady t p))
  pub timed : IfOk result (λ x. changes x (λ p change. IsTimed now change))
  pub does : OnVolumes G blocks s (λ disk settled v. IfOk result (λ x. changes x (λ p change. Does disk settled t v p change)))
  pub answers : Told (read_outcome result)
  pub damaged : NeverDamaged G blocks s (read_outcome result)

-- the same of a call that is answered so on each mounted volume that the table fits
abbrev pub PreparesOpen : {B T : Type 0} → Changes T → (T → Type 0) → Option Time → Ghosts B → B → B → InodeFile → InodeFile → Descriptors
    → (Volume → Result T Errno → Type 0) → Result T Failure → Type 0
PreparesOpen changes IsWithin now G blocks after s t table answer result =
    PreparesTold changes IsWithin now G blocks after s t (λ r. OnOpen G blocks s table (λ v. IfOk r (answer v))) result

-- the same of a call that prepares nothing
abbrev pub AnswersOpen : {B T : Type 0} → Ghosts B → B → B → InodeFile → InodeFile → Descriptors → (Volume → Result T Errno → Type 0) → Result T Failure → Type 0
AnswersOpen G blocks after s t table answer result = PreparesOpen (λ x P. Unit {0}) IsAny None G blocks after s t table answer result
