-- What writing through a descriptor comes to.
use Rattle.std.specs.Prelude.{ℕ, ◌≡◌, ◌≤◌, ◌+◌, IfSome, IsSome, Bool, not, List, [], ◌∷◌, length, Option, Some, None, Result, Ok, Err, if◌then◌else◌}
use Rattle.model.specs.declared.limits.Limits.{Limits}
use Rattle.model.specs.Outcomes.{Outcome}
use Rattle.model.specs.Paths.{Tests}
use Rattle.model.specs.Records.{Change, applied, stamped, work_of, write}
use Rattle.model.specs.Room.{logs, nothing}
use Rattle.model.specs.Trees.{Description}
use Rattle.model.specs.Volumes.{IsMounted, Volume, tree_of}
use Rattle.model.specs.declared.errno.Errno.{Errno}
use Rattle.model.specs.declared.errno.Errno.TheVariants.{EBADF, EINVAL}
use Rattle.model.specs.declared.limits.TheConstants.{TRANSFER_BYTES}
use Rattle.model.specs.declared.reply.Reply.TheVariants.{Refused, Wrote}
use Rattle.model.specs.declared.time.Time.{Time}
use Rattle.records.specs.Rewriting.{GoesOver, PutsBytes}
pub use Rattle.descriptors.specs.Tables.{moved_to}
use Rattle.descriptors.specs.Tables.{table_of}
use Rattle.descriptors.specs.declared.open_file.OpenFile.{OpenFile}
use Rattle.descriptors.specs.declared.table.Descriptors.{Descriptors}
use Rattle.files.specs.Opened.{tree_with}
use Rattle.files.specs.Preparing.{Changes}
use Rattle.files.specs.declared.written.Written.{Written}
use Rattle.files.specs.declared.written.Writing.{Writing}

-- the tests of a write, of which it is told whether what is asked can't be
abbrev pub write_tests : Bool → Description → Tests
write_tests is_wrong f = (not f.writes, EBADF) ∷ (is_wrong, EINVAL) ∷ []

-- where a write goes that names no offset: behind the last byte under append
abbrev pub write_place : OpenFile → ℕ
write_place f = if f.appends then f.size else f.offset

-- the record of bytes that go to a file at this time
abbrev pub change_of_write : Option Time → Written → List ℕ → Change
change_of_write now w bytes = stamped now (write w.number w.offset bytes)

-- what is prepared of a write of these bytes at this time, if there are any
abbrev pub of_writing : Option Time → List ℕ → Changes (Option Writing)
of_writing now bytes o P = IfSome o (λ w. P w.prepared (change_of_write now w.written bytes))

-- where something is written, there are bytes, and no more than one call writes
abbrev pub IsTransfer : List ℕ → Option Writing → Type 0
IsTransfer bytes o = IfSome o (λ _. (1 ≤ length bytes) × (length bytes ≤ TRANSFER_BYTES))

-- and the descriptor is open
abbrev pub IsWrite : Descriptors → ℕ → List ℕ → Option Writing → Type 0
IsWrite table fd bytes o = IfSome o (λ _. (1 ≤ length bytes) × (length bytes ≤ TRANSFER_BYTES) × IsSome (table_of table fd))

-- bytes go to an open file, at an offset, and this place is behind them
pub record IsBehindWritten (f : OpenFile) (offset : ℕ) (bytes : List ℕ) (w : Written) : Type 0 where
  pub number_is : w.number ≡ f.number
  pub offset_is : w.offset ≡ offset
  pub behind_is : w.behind ≡ offset + length bytes

-- what bytes that go to an open file come to, whatever else changes by the call
abbrev pub PutsFile : Limits → Option Time → Volume → (ℕ → Option Description) → OpenFile → ℕ → List ℕ → Result (Option Writing) Errno → Type 0
PutsFile limits now v table f offset bytes (Err errno) = PutsBytes limits now v table f.number offset bytes (Err errno)
PutsFile limits now v table f offset bytes (Ok None) = PutsBytes limits now v table f.number offset bytes (Ok None)
PutsFile limits now v table f offset bytes (Ok (Some w)) =
    IsBehindWritten f offset bytes w.written × PutsBytes limits now v table f.number offset bytes (Ok (Some w.prepared))

-- what a write comes to: a refusal, nothing where there are no bytes, or what its record does, with
-- these descriptors then
abbrev pub WritesFile : Outcome → Limits → Option Time → Volume → Descriptors → List ℕ → (Written → ℕ → Option Description) → Result (Option Writing) Errno → Type 0
WritesFile outcome limits now v table bytes after (Err errno) = outcome (Refused errno) (tree_with table v) nothing
WritesFile outcome limits now v table bytes after (Ok None) = outcome (Wrote 0) (tree_with table v) nothing
WritesFile outcome limits now v table bytes after (Ok (Some w)) =
    GoesOver limits v (table_of table) (change_of_write now w.written bytes)
    × IsMounted (applied (change_of_write now w.written bytes) v) (after w.written)
    × outcome (Wrote (length bytes)) (tree_of (applied (change_of_write now w.written bytes) v) (after w.written)) (logs (work_of v (change_of_write now w.written bytes)))
