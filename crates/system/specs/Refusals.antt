-- What the refusals of the layers below are to a mount.
use Rattle.std.specs.Prelude.{◌≡◌, ◌⊎◌}
use Rattle.oplog.specs.declared.saved.SavedLogError.{SavedLogError}
use Rattle.oplog.specs.declared.saved.SavedLogError.TheVariants as log
use Rattle.buffers.specs.declared.error.BlockError.{BlockError}
use Rattle.buffers.specs.declared.error.BlockError.TheVariants as read
use Rattle.loading.specs.declared.error.RootError.{RootError}
use Rattle.loading.specs.declared.error.RootError.TheVariants as root
use Rattle.system.specs.declared.mount_error.MountError.{MountError}
use Rattle.system.specs.declared.mount_error.MountError.TheVariants.{NoMemory, Device, NoRoot, Damaged}

abbrev pub refusal_of_root : RootError → MountError
refusal_of_root root.Device = Device
refusal_of_root root.NoRoot = NoRoot
refusal_of_root root.Damaged = Damaged

abbrev pub refusal_of_log : SavedLogError → MountError
refusal_of_log log.NoMemory = NoMemory
refusal_of_log log.Device = Device
refusal_of_log log.Damaged = Damaged

abbrev pub refusal_of_read : BlockError → MountError
refusal_of_read read.NoMemory = NoMemory
refusal_of_read read.Device = Device
refusal_of_read read.Damaged = Damaged

-- a read failed
abbrev pub IsDevice : MountError → Type 0
IsDevice e = e ≡ Device

-- it says nothing against the image
abbrev pub SaysNothing : MountError → Type 0
SaysNothing e = (e ≡ NoMemory) ⊎ (e ≡ Device)
