-- Errors of the layer below, as those of this one.
use Rattle.std.specs.Prelude.{◌≡◌}
use Rattle.buffers.specs.declared.error.BlockError.{BlockError}
use Rattle.buffers.specs.declared.error.BlockError.TheVariants as below
use Rattle.dirs.specs.declared.error.AddError.{AddError}
use Rattle.dirs.specs.declared.error.AddError.TheVariants.{NoMemory, Device, Damaged}

abbrev pub add_error : BlockError → AddError
add_error below.NoMemory = NoMemory
add_error below.Device = Device
add_error below.Damaged = Damaged

-- a device call failed
abbrev pub IsAddFault : AddError → Type 0
IsAddFault e = e ≡ Device
