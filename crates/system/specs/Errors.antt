-- Why a system refused.
use Rattle.std.specs.Prelude.{◌≡◌}
use Rattle.buffers.specs.declared.error.BlockError.{BlockError}
use Rattle.buffers.specs.declared.error.BlockError.TheVariants as read
use Rattle.oplog.specs.declared.log.AppendError.{AppendError}
use Rattle.oplog.specs.declared.log.AppendError.TheVariants as append
use Rattle.system.specs.declared.error.CallError.{CallError}
use Rattle.system.specs.declared.error.CallError.TheVariants as call
use Rattle.system.specs.declared.error.WaitError.{WaitError}
use Rattle.system.specs.declared.error.WaitError.TheVariants as wait
use Rattle.system.specs.declared.error.PointError.{PointError}
use Rattle.system.specs.declared.error.PointError.TheVariants.{NotPlanned, NotWritten, NoGeneration}

-- nothing was written
abbrev pub IsRefused : PointError → Type 0
IsRefused (NotPlanned e) = Unit {0}
IsRefused NotWritten = ⊥
IsRefused NoGeneration = Unit {0}

-- a write or a sync failed
abbrev pub IsNotWritten : PointError → Type 0
IsNotWritten e = e ≡ NotWritten

-- a failed read, to who gave a call
abbrev pub call_error : BlockError → CallError
call_error read.NoMemory = call.NoMemory
call_error read.Device = call.NotRead
call_error read.Damaged = call.Damaged

-- a failed append
abbrev pub log_error : AppendError → CallError
log_error append.NoMemory = call.NoMemory
log_error append.Device = call.NotWritten
log_error append.LogFull = call.LogFull

-- a failed read, to who gave a call that may wait
abbrev pub wait_error : BlockError → WaitError
wait_error read.NoMemory = wait.NoMemory
wait_error read.Device = wait.NotRead
wait_error read.Damaged = wait.Damaged
