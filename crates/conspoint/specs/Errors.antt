-- Errors of reading, as those of a plan.
use Rattle.std.specs.Prelude.{◌≡◌}
use Rattle.buffers.specs.declared.error.BlockError.{BlockError}
use Rattle.buffers.specs.declared.error.BlockError.TheVariants as below
use Rattle.conspoint.specs.declared.error.PlanError.{PlanError}
use Rattle.conspoint.specs.declared.error.PlanError.TheVariants.{NoMemory, Device, Damaged}

abbrev pub plan_error : BlockError → PlanError
plan_error below.NoMemory = NoMemory
plan_error below.Device = Device
plan_error below.Damaged = Damaged

-- the error says that a read failed
abbrev pub IsReadFault : PlanError → Type 0
IsReadFault e = e ≡ Device
