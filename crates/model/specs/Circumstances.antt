-- Which reply and which new state a command may give, under what may come in its way.
use Rattle.std.specs.Prelude.{◌≡◌, ◌⊎◌, Bool, false, MatchBool, IsTrue, IsFalse, Some, None}
use Rattle.model.specs.declared.errno.Errno.TheVariants.{ENOSPC, ENOMEM, EIO, FAILED}
use Rattle.model.specs.declared.reply.Reply.{Reply}
use Rattle.model.specs.declared.reply.Reply.TheVariants.{Done, Refused}
use Rattle.model.specs.declared.command.Command.{Command}
use Rattle.model.specs.declared.command.Command.TheVariants as command
use Rattle.model.specs.Trees.{HasPath}
use Rattle.model.specs.States.{State, going, failed, as_failed}
use Rattle.model.specs.Room.{Room, Need, IsShort}
use Rattle.model.specs.Steps.{WouldStep}

-- what came in the way of a command: device calls that failed, memory that was refused, and the
-- disk's room
pub record Circumstances : Type 0 where
  pub read_failed : Bool
  pub write_failed : Bool  -- or a sync
  -- no cause is told: of the answers ENOMEM and NoMemory no theorem says that a growth was refused
  pub memory_refused : Bool
  pub room : Room

-- nothing came in the way, and this is the room
abbrev pub clear : Room → Circumstances
clear room = record { read_failed = false; write_failed = false; memory_refused = false; room = room }

-- the command is done: reply and new state are those that it gives where nothing comes in its way
abbrev pub IsDone : Circumstances → State → Command → Reply → State → Type 0
IsDone c s command reply new = (need : Need) × WouldStep c.room s command reply new need

-- the command takes no memory and calls no device, so it is always done: `lseek`, `fsync`, `at`, `as`,
-- `df`, `statfs`, and `close` but of a file that has no name
abbrev pub IsSure : State → Command → Type 0
IsSure s (command.Lseek fd whence offset) = Unit {0}
IsSure s (command.Fsync fd) = Unit {0}
IsSure s (command.At seconds nanoseconds) = Unit {0}
IsSure s (command.As owner group) = Unit {0}
IsSure s command.Df = Unit {0}
IsSure s command.Statfs = Unit {0}
IsSure s (command.Close fd) = elim (s.tree.descriptors fd) [ Some f ↦ HasPath s.tree f.number | None ↦ Unit {0} ]
IsSure s c = ⊥

-- the command is answered behind a consistency point: `sync`, `snap take`, `snap delete` and `snap
-- restore`
abbrev pub IsCheckpoint : Command → Type 0
IsCheckpoint command.Sync = Unit {0}
IsCheckpoint (command.SnapTake name) = Unit {0}
IsCheckpoint (command.SnapDelete name) = Unit {0}
IsCheckpoint (command.SnapRestore name) = Unit {0}
IsCheckpoint c = ⊥

-- behind an `ok` to such a command the settled root covers all that was done
abbrev pub CoversWhereOk : Circumstances → Command → Reply → Type 0
CoversWhereOk c command reply = IsCheckpoint command → reply ≡ Done → IsTrue c.room.is_covered

-- the room isn't enough for what the command would do
abbrev pub IsShortFor : Room → State → Command → Type 0
IsShortFor room s command =
    (reply : Reply) × (new : State) × (need : Need) × WouldStep room s command reply new need × IsShort room need

-- a refusal stands in place of the command's own reply, for a cause that came: EIO for a failed
-- read, ENOMEM for refused memory, ENOSPC for want of room
abbrev pub IsExcused : Circumstances → State → Command → Reply → Type 0
IsExcused c s command (Refused EIO) = IsTrue c.read_failed
IsExcused c s command (Refused ENOMEM) = IsTrue c.memory_refused
IsExcused c s command (Refused ENOSPC) = IsShortFor c.room s command
IsExcused c s command reply = ⊥

-- what a command that may fail comes to: after a failed write EIO and a failed system; else it is
-- done, or it is refused for a cause and nothing changes
abbrev pub IsAnswered : Circumstances → State → Command → Reply → State → Type 0
IsAnswered c s command reply new =
    MatchBool c.write_failed ((reply ≡ Refused EIO) × (new ≡ as_failed s))
    ((IsDone c s command reply new × CoversWhereOk c command reply) ⊎ (IsExcused c s command reply × (new ≡ s)))

-- the reply and the new state that a command may give under these circumstances: a sure one is
-- done, and no write fails in it, another may fail, and a failed system answers FAILED and stays so
abbrev pub Allowed : Circumstances → State → Command → Reply → State → Type 0
Allowed c s command reply new =
    elim s.mark [
      | failed ↦ (reply ≡ Refused FAILED) × (new ≡ s)
      | going ↦ (IsSure s command × IsFalse c.write_failed × IsDone c s command reply new) ⊎ ((¬ IsSure s command) × IsAnswered c s command reply new)
    ]
