-- Errors of reading, as those of a change.
use Rattle.std.specs.Prelude.{◌≡◌}
use Rattle.buffers.specs.declared.error.BlockError.{BlockError}
use Rattle.buffers.specs.declared.error.BlockError.TheVariants as below
use Rattle.inode.specs.declared.error.ChangeError.{ChangeError}
use Rattle.inode.specs.declared.error.ChangeError.TheVariants.{NoMemory, Device, Damaged}

abbrev pub change_error : BlockError → ChangeError
change_error below.NoMemory = NoMemory
change_error below.Device = Device
change_error below.Damaged = Damaged

-- a device call failed
abbrev pub IsChangeFault : ChangeError → Type 0
IsChangeFault e = e ≡ Device
