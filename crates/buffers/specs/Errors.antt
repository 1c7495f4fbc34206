-- What an error of blocks tells.
use Rattle.std.specs.Prelude.{◌≡◌}
use Rattle.buffers.specs.declared.error.BlockError.{BlockError}
use Rattle.buffers.specs.declared.error.BlockError.TheVariants.{Device}

-- a device call failed
abbrev pub IsFault : BlockError → Type 0
IsFault e = e ≡ Device
