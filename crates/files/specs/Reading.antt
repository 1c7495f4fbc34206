-- What reading through a descriptor comes to.
use Rattle.std.specs.Prelude.{ℕ, ◌≡◌, ◌⊎◌, Bool, not, List, [], ◌∷◌, Some, None, Result, Ok, Err, IfErr, IfOk, IsTrue, OnErr, unwrap_or}
use Rattle.model.specs.Edits.{read_at}
use Rattle.model.specs.Paths.{Tests, first_refusal}
use Rattle.model.specs.Trees.{Description}
use Rattle.model.specs.Volumes.{IsMounted, Volume, bytes_of_node}
use Rattle.model.specs.declared.errno.Errno.{Errno}
use Rattle.model.specs.declared.errno.Errno.TheVariants.{EBADF, EINVAL}
use Rattle.buffers.specs.Errors.{IsFault}
use Rattle.buffers.specs.declared.blocks.Blocks.{Ghosts}
use Rattle.inofile.specs.declared.inode_file.InodeFile.{InodeFile}
use Rattle.paths.specs.Standing.{Looks}
use Rattle.records.specs.Failures.{read_outcome}
use Rattle.records.specs.Opened.{HasNumbers}
use Rattle.records.specs.Shown.{NeverDamaged}
use Rattle.records.specs.declared.failure.Failure.{Failure}
use Rattle.calls.specs.Refusals.{is_path_refusal}
use Rattle.descriptors.specs.Files.{description_of}
use Rattle.descriptors.specs.Fits.{FitsVolume}
use Rattle.descriptors.specs.Tables.{open_at, table_of}
use Rattle.descriptors.specs.declared.open_file.OpenFile.{OpenFile}
use Rattle.descriptors.specs.declared.table.Descriptors.{Descriptors}
use Rattle.files.specs.Opened.{OnOpen}

-- the tests of a read, of which it is told whether what is asked can't be
abbrev pub read_tests : Bool → Description → Tests
read_tests is_wrong f = (not f.reads, EBADF) ∷ (is_wrong, EINVAL) ∷ []

-- the file that is open at a descriptor and passes these tests, or the refusal: EBADF where none is
-- open
abbrev pub PassesOpen : (Description → Tests) → Descriptors → ℕ → Result OpenFile Errno → Type 0
PassesOpen tests table fd (Ok f) = (open_at table fd ≡ Some f) × (first_refusal (tests (description_of f)) ≡ None)
PassesOpen tests table fd (Err errno) =
    ((open_at table fd ≡ None) × (errno ≡ EBADF))
    ⊎ ((f : OpenFile) × (open_at table fd ≡ Some f) × (first_refusal (tests (description_of f)) ≡ Some errno))

-- so many bytes of the file n from an offset on, as far as there are any
abbrev pub ReadsFile : Volume → ℕ → ℕ → ℕ → Result (List ℕ) Errno → Type 0
ReadsFile v n offset count (Ok bytes) = bytes ≡ read_at offset count (unwrap_or (bytes_of_node (v n)) [])
ReadsFile v n offset count (Err errno) = ⊥

-- Nothing is done but looking, and offsets may move in the table; after an error or a refusal none
-- has moved. A call is answered so on each mounted volume that the table fits; and no damage is
-- found.
pub record AnswersMoving {B T : Type 0} (G : Ghosts B) (blocks after : B) (s t : InodeFile) (table moved : Descriptors) (answer : Volume → Result T Errno → Type 0)
    (result : Result T Failure) : Type 0 where
  pub looks : Looks G IsFault blocks after s t (read_outcome result)
  pub own : IfOk (read_outcome result) (λ r. IfErr r (λ e. IsTrue (is_path_refusal e)))
  pub answers : OnOpen G blocks s table (λ v. IfOk (read_outcome result) (answer v))
  pub fits : (v : Volume) → FitsVolume table v → FitsVolume moved v
  pub mounted : (v : Volume) → IsMounted v (table_of table) → IsMounted v (table_of moved)
  pub numbers : (n : ℕ) → HasNumbers n table → HasNumbers n moved
  pub refused : OnErr result (moved ≡ table)
  pub damaged : NeverDamaged G blocks s (read_outcome result)
