-- What a function did to a station: which of its device calls failed, and what it left of the
-- NVRAM.
use Rattle.std.specs.Prelude.{ℕ, ◌≡◌, ◌+◌, ◌<◌, ◌≤◌, ◌^◌, Bool, Result, Ok, Err, if◌then◌else◌}
use Rattle.station.specs.Calls.{Uses}
use Rattle.station.specs.Images.{Images}
use Rattle.station.specs.Moments.{After, HasGrown, LeavesOnly, Meaning}
use Rattle.conspoint.specs.declared.error.PlanError.TheVariants.{Device}
use Rattle.system.specs.declared.error.CallError.{CallError}
use Rattle.system.specs.declared.error.CallError.TheVariants as call
use Rattle.system.specs.declared.error.PointError.{PointError}
use Rattle.system.specs.declared.error.PointError.TheVariants as point

-- which device calls of a function failed, as far as its answer tells
pub data Failed : Type 0 where
  no_call : Failed
  a_read : Failed  -- and no write
  a_write : Failed  -- or a sync
  perhaps_reads : Failed  -- and no write
  perhaps_any : Failed

-- so it tells of the count of failed reads
abbrev pub TellsReads : Failed → ℕ → ℕ → Type 0
TellsReads no_call old new = new ≡ old
TellsReads a_read old new = HasGrown old new
TellsReads why old new = Unit {0}

-- and of that of failed writes and syncs
abbrev pub TellsWrites : Failed → ℕ → ℕ → Type 0
TellsWrites a_write old new = HasGrown old new
TellsWrites perhaps_any old new = Unit {0}
TellsWrites why old new = new ≡ old

-- Device calls of any kind were made, and these of them failed.
pub record Counted (old new : Meaning) (why : Failed) : Type 0 where
  pub uses : Uses old new
  pub reads : TellsReads why old.failed_reads new.failed_reads
  pub writes : TellsWrites why old.failed_writes new.failed_writes

-- what an error of a call tells; a log that had stopped before takes nothing, and needs no fault
-- for that
abbrev pub call_error_failed : Bool → CallError → Failed
call_error_failed had_stopped call.NoMemory = perhaps_reads
call_error_failed had_stopped call.NotRead = a_read
call_error_failed had_stopped call.Damaged = perhaps_reads
call_error_failed had_stopped call.NoRoom = no_call
call_error_failed had_stopped call.LogFull = no_call
call_error_failed had_stopped call.NotWritten = if had_stopped then perhaps_any else a_write

-- and its answer: where there is one, nothing failed
abbrev pub call_failed : {T : Type 0} → Bool → Result T CallError → Failed
call_failed had_stopped (Ok answer) = no_call
call_failed had_stopped (Err error) = call_error_failed had_stopped error

-- the same of what a plan may have come before that was given up, perhaps for a failed read
abbrev pub beside_reads : Failed → Failed
beside_reads no_call = perhaps_reads
beside_reads why = why

-- what an error of a consistency point tells
abbrev pub point_error_failed : PointError → Failed
point_error_failed (point.NotPlanned Device) = a_read
point_error_failed point.NotWritten = a_write
point_error_failed error = perhaps_reads

-- and its answer
abbrev pub point_failed : {T : Type 0} → Result T PointError → Failed
point_failed (Ok answer) = no_call
point_failed (Err error) = point_error_failed error

-- no generation has this number
abbrev pub IsNoGeneration : ℕ → Type 0
IsNoGeneration n = (1 ≤ n) × (n < 2 ^ 62) → ⊥

-- an epoch is so many points later at most
pub record AgesBy (points old new : ℕ) : Type 0 where
  pub ages : old ≤ new
  pub lasts : new ≤ old + points

-- the NVRAM stays as it is
abbrev pub SameNvram : Images → Images → Type 0
SameNvram old new = new.nvram ≡ old.nvram

-- From one meaning to another nothing was logged: a cut at any moment leaves an NVRAM that one
-- might have left before.
abbrev pub LogsNothing : Meaning → Meaning → Type 0
LogsNothing old new = LeavesOnly old new (After SameNvram old)
