-- How calls are answered.
use Rattle.model.specs.declared.command.Command.{Command}
use Rattle.model.specs.declared.command.Command.TheVariants as command
use Rattle.model.specs.Circumstances.{IsCheckpoint}
use Rattle.dispatch.specs.Serving.{IsCall}

-- not behind a consistency point
pub no_checkpoint : (c : Command) → IsCall c → ¬ IsCheckpoint c
no_checkpoint (command.Path c) is checkpointing = checkpointing
no_checkpoint (command.Open path flags mode below) is checkpointing = checkpointing
no_checkpoint (command.OpenStat path flags mode below) is checkpointing = checkpointing
no_checkpoint (command.Close fd) is checkpointing = checkpointing
no_checkpoint (command.Read fd count) is checkpointing = checkpointing
no_checkpoint (command.Write fd given) is checkpointing = checkpointing
no_checkpoint (command.Pread fd offset count) is checkpointing = checkpointing
no_checkpoint (command.Pwrite fd offset given) is checkpointing = checkpointing
no_checkpoint (command.Lseek fd whence offset) is checkpointing = checkpointing
no_checkpoint (command.Ftruncate fd size) is checkpointing = checkpointing
no_checkpoint (command.Fchmod fd mode) is checkpointing = checkpointing
no_checkpoint (command.Fchown fd owner group) is checkpointing = checkpointing
no_checkpoint (command.Futimens fd time) is checkpointing = checkpointing
no_checkpoint (command.Fstat fd) is checkpointing = checkpointing
no_checkpoint (command.Fattr fd) is checkpointing = checkpointing
no_checkpoint (command.Fsync fd) is checkpointing = checkpointing
no_checkpoint (command.Extent path offset) is checkpointing = checkpointing
no_checkpoint (command.At seconds nanoseconds) is checkpointing = checkpointing
no_checkpoint (command.As owner group) is checkpointing = checkpointing
no_checkpoint command.Sync is checkpointing = is
no_checkpoint command.Df is checkpointing = checkpointing
no_checkpoint command.Statfs is checkpointing = checkpointing
no_checkpoint (command.SnapTake name) is checkpointing = is
no_checkpoint (command.SnapDelete name) is checkpointing = is
no_checkpoint (command.SnapRestore name) is checkpointing = is
no_checkpoint command.SnapList is checkpointing = checkpointing
no_checkpoint (command.Within name c) is checkpointing = checkpointing
