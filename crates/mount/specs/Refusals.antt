-- What the errors of a system are to who gave the command.
use Rattle.std.specs.Prelude.{Bool, true, false, Option, Some, None}
use Rattle.conspoint.specs.declared.error.PlanError.TheVariants as plan
use Rattle.model.specs.declared.errno.Errno.{Errno}
use Rattle.model.specs.declared.errno.Errno.TheVariants.{DAMAGED, EIO, ENOMEM, ENOSPC, FAILED}
use Rattle.model.specs.declared.reply.Reply.{Reply}
use Rattle.model.specs.declared.reply.Reply.TheVariants.{Refused}
use Rattle.system.specs.declared.error.CallError.{CallError}
use Rattle.system.specs.declared.error.CallError.TheVariants as call
use Rattle.system.specs.declared.error.PointError.{PointError}
use Rattle.system.specs.declared.error.PointError.TheVariants as point
use Rattle.system.specs.declared.error.WaitError.{WaitError}
use Rattle.system.specs.declared.error.WaitError.TheVariants as wait

-- of a call
abbrev pub errno_of_call : CallError → Errno
errno_of_call call.NoMemory = ENOMEM
errno_of_call call.NotRead = EIO
errno_of_call call.Damaged = DAMAGED
errno_of_call call.NoRoom = ENOSPC
errno_of_call call.LogFull = DAMAGED
errno_of_call call.NotWritten = EIO

-- the reply to a call that was to wait, and wasn't done; none where it can't wait
abbrev pub refusal_of_wait : WaitError → Option Reply
refusal_of_wait wait.NoMemory = Some (Refused ENOMEM)
refusal_of_wait wait.NotRead = Some (Refused EIO)
refusal_of_wait wait.Damaged = Some (Refused DAMAGED)
refusal_of_wait e = None

-- of a consistency point
abbrev pub errno_of_point : PointError → Errno
errno_of_point (point.NotPlanned plan.NoMemory) = ENOMEM
errno_of_point (point.NotPlanned plan.Device) = EIO
errno_of_point (point.NotPlanned plan.NoSpace) = DAMAGED
errno_of_point (point.NotPlanned plan.Damaged) = DAMAGED
errno_of_point point.NotWritten = EIO
errno_of_point point.NoGeneration = FAILED

-- the error fails a system, until the next mount
abbrev pub fails_call : CallError → Bool
fails_call call.NotWritten = true
fails_call e = false

abbrev pub fails_point : PointError → Bool
fails_point (point.NotPlanned e) = false
fails_point point.NotWritten = true
fails_point point.NoGeneration = true
