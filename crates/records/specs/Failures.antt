-- Why a call isn't done.
use Rattle.std.specs.Prelude.{Result, Ok, Err}
use Rattle.model.specs.declared.errno.Errno.{Errno}
use Rattle.buffers.specs.declared.error.BlockError.{BlockError}
use Rattle.records.specs.declared.failure.Failure.{Failure}
use Rattle.records.specs.declared.failure.Failure.TheVariants.{Read, Refused}

-- what a call told: that a block wasn't read; or its refusal, or what it gives
abbrev pub read_outcome : {T : Type 0} → Result T Failure → Result (Result T Errno) BlockError
read_outcome (Ok x) = Ok (Ok x)
read_outcome (Err (Refused errno)) = Ok (Err errno)
read_outcome (Err (Read e)) = Err e
