-- What writing bytes into a file over a path comes to.
use Rattle.std.specs.Prelude.{ℕ, ◌≡◌, ◌≤◌, IfErr, IfOk, IfSome, IsTrue, List, length, Option, Some, None, Result, Ok, Err}
use Rattle.model.specs.declared.limits.Limits.{Limits}
use Rattle.layout.specs.StateLimits.{limits_of}
use Rattle.model.specs.Outcomes.{Outcome}
use Rattle.model.specs.Records.{Change, applied, stamped, work_of, write}
use Rattle.model.specs.Room.{logs, nothing}
use Rattle.model.specs.Trees.{Description}
use Rattle.model.specs.Volumes.{Volume, tree_of}
use Rattle.model.specs.declared.errno.Errno.{Errno}
use Rattle.model.specs.declared.limits.TheConstants.{TRANSFER_BYTES}
use Rattle.model.specs.declared.reply.Reply.TheVariants.{Refused, Wrote}
use Rattle.model.specs.declared.time.Time.{Time}
use Rattle.buffers.specs.Errors.{IsFault}
use Rattle.buffers.specs.declared.blocks.Blocks.{Ghosts}
use Rattle.inofile.specs.declared.inode_file.InodeFile.{InodeFile}
use Rattle.paths.specs.Standing.{Looks}
use Rattle.records.specs.Failures.{read_outcome}
use Rattle.records.specs.Prepared.{Does, IsReady}
use Rattle.records.specs.Rewriting.{GoesOver, PutsBytes}
use Rattle.records.specs.Shown.{NeverDamaged, OnMounted, OnVolumes}
use Rattle.records.specs.declared.failure.Failure.{Failure}
use Rattle.calls.specs.Preparing.{Answer}
use Rattle.calls.specs.Refusals.{is_path_refusal}
use Rattle.calls.specs.declared.preparing.store.Storing.{Storing}

-- the record of bytes that go to a file at this time
abbrev pub change_of_store : Option Time → Storing → List ℕ → Change
change_of_store now w bytes = stamped now (write w.number w.offset bytes)

-- where something is written, there are bytes, and no more than one call writes
abbrev pub IsTransfer : List ℕ → Option Storing → Type 0
IsTransfer bytes o = IfSome o (λ _. (1 ≤ length bytes) × (length bytes ≤ TRANSFER_BYTES))

-- what bytes that go to the file with this number come to at this time, whatever else changes by
-- the call
abbrev pub PutsInto : Limits → Option Time → Volume → (ℕ → Option Description) → ℕ → ℕ → List ℕ
    → Result (Option Storing) Errno → Type 0
PutsInto limits now v table n offset bytes (Err errno) =
    PutsBytes limits now v table n offset bytes (Err errno)
PutsInto limits now v table n offset bytes (Ok None) =
    PutsBytes limits now v table n offset bytes (Ok None)
PutsInto limits now v table n offset bytes (Ok (Some w)) =
    (w.number ≡ n) × (w.offset ≡ offset)
    × PutsBytes limits now v table n offset bytes (Ok (Some w.prepared))

-- what the call comes to: a refusal, nothing where there are no bytes, or what their record does
abbrev pub StoresFile : Outcome → Limits → Option Time → Volume → (ℕ → Option Description) → List ℕ
    → Result (Option Storing) Errno → Type 0
StoresFile outcome limits now v table bytes (Err errno) =
    outcome (Refused errno) (tree_of v table) nothing
StoresFile outcome limits now v table bytes (Ok None) = outcome (Wrote 0) (tree_of v table) nothing
StoresFile outcome limits now v table bytes (Ok (Some w)) =
    let change = change_of_store now w bytes in
    GoesOver limits v table change
    × outcome (Wrote (length bytes)) (tree_of (applied change v) table) (logs (work_of v change))

-- Nothing is done but looking; the call is refused by an errno of paths, or the record of the bytes
-- is prepared for this time, if there are any, with room for it in memory, and does what it says;
-- and over memory that stands for a volume this is the answer, and no damage is found.
pub record PreparesStoring {B : Type 0} (now : Option Time) (bytes : List ℕ) (G : Ghosts B) (blocks after : B) (s t : InodeFile)
    (answer : Answer (Option Storing)) (result : Result (Option Storing) Failure) : Type 0 where
  pub looks : Looks G IsFault blocks after s t (read_outcome result)
  pub own : IfOk (read_outcome result) (λ r. IfErr r (λ e. IsTrue (is_path_refusal e)))
  pub within : IfOk result (IsTransfer bytes)
  pub ready : IfOk result (λ o. IfSome o (λ w. IsReady t w.prepared))
  pub does : OnVolumes G blocks s (λ disk settled v. IfOk result
      (λ o. IfSome o (λ w. Does disk settled t v w.prepared (change_of_store now w bytes))))
  pub answers : OnMounted G blocks s
      (λ v table. IfOk (read_outcome result) (answer (limits_of s.geometry) v table))
  pub damaged : NeverDamaged G blocks s (read_outcome result)
