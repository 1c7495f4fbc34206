-- What kind of reply a command has, where it isn't refused.
use Rattle.model.specs.declared.command.Command.{Command}
use Rattle.model.specs.declared.command.Command.TheVariants as command
use Rattle.model.specs.declared.command.PathCall.{PathCall}
use Rattle.model.specs.declared.command.PathCall.TheVariants as call
use Rattle.model.specs.declared.reply.Reply.{Reply}
use Rattle.model.specs.declared.reply.Reply.TheVariants as reply

-- it was done
abbrev pub IsDone : Reply → Type 0
IsDone reply.Done = Unit {0}
IsDone other = ⊥

-- a descriptor
abbrev pub IsDescriptor : Reply → Type 0
IsDescriptor (reply.Fd fd) = Unit {0}
IsDescriptor other = ⊥

-- a descriptor, and what stands there
abbrev pub IsOpened : Reply → Type 0
IsOpened (reply.Opened fd stat) = Unit {0}
IsOpened other = ⊥

-- bytes
abbrev pub IsData : Reply → Type 0
IsData (reply.Data bytes) = Unit {0}
IsData other = ⊥

-- how many bytes were written
abbrev pub IsWritten : Reply → Type 0
IsWritten (reply.Wrote count) = Unit {0}
IsWritten other = ⊥

-- an offset
abbrev pub IsOffset : Reply → Type 0
IsOffset (reply.At offset) = Unit {0}
IsOffset other = ⊥

-- a link's text
abbrev pub IsTextOf : Reply → Type 0
IsTextOf (reply.Text text) = Unit {0}
IsTextOf other = ⊥

-- a directory's names
abbrev pub IsNames : Reply → Type 0
IsNames (reply.Names names) = Unit {0}
IsNames other = ⊥

-- a directory's names with what is told of each
abbrev pub IsEntries : Reply → Type 0
IsEntries (reply.Entries entries) = Unit {0}
IsEntries other = ⊥

-- the snapshots' names
abbrev pub IsSnapshots : Reply → Type 0
IsSnapshots (reply.Snaps names) = Unit {0}
IsSnapshots other = ⊥

-- what stands somewhere
abbrev pub IsStat : Reply → Type 0
IsStat (reply.Stat stat) = Unit {0}
IsStat other = ⊥

-- what stands somewhere, and its attributes
abbrev pub IsAttributes : Reply → Type 0
IsAttributes (reply.Attributes stat attributes) = Unit {0}
IsAttributes other = ⊥

-- what of a file is stored
abbrev pub IsExtent : Reply → Type 0
IsExtent (reply.Extent extent) = Unit {0}
IsExtent other = ⊥

-- the room of the disk
abbrev pub IsSpace : Reply → Type 0
IsSpace (reply.Space blocks free pledged) = Unit {0}
IsSpace other = ⊥

-- the room of the disk, and for objects
abbrev pub IsUsage : Reply → Type 0
IsUsage (reply.Usage usage) = Unit {0}
IsUsage other = ⊥

-- what a call that names a path is answered, where it isn't refused
abbrev pub IsAnswerToPath : PathCall → Reply → Type 0
IsAnswerToPath (call.List path) r = IsNames r
IsAnswerToPath (call.Entries path after count) r = IsEntries r
IsAnswerToPath (call.Stat path) r = IsStat r
IsAnswerToPath (call.Lstat path) r = IsStat r
IsAnswerToPath (call.Attr path follow) r = IsAttributes r
IsAnswerToPath (call.Readlink path) r = IsTextOf r
IsAnswerToPath (call.Get path offset count) r = IsData r
IsAnswerToPath (call.Store path offset bytes) r = IsWritten r
IsAnswerToPath other r = IsDone r

-- what a command is answered, where it isn't refused
abbrev pub IsAnswerTo : Command → Reply → Type 0
IsAnswerTo (command.Path call) r = IsAnswerToPath call r
IsAnswerTo (command.Open path flags mode below) r = IsDescriptor r
IsAnswerTo (command.OpenStat path flags mode below) r = IsOpened r
IsAnswerTo (command.Read fd count) r = IsData r
IsAnswerTo (command.Write fd bytes) r = IsWritten r
IsAnswerTo (command.Pread fd offset count) r = IsData r
IsAnswerTo (command.Pwrite fd offset bytes) r = IsWritten r
IsAnswerTo (command.Lseek fd whence offset) r = IsOffset r
IsAnswerTo (command.Fstat fd) r = IsStat r
IsAnswerTo (command.Fattr fd) r = IsAttributes r
IsAnswerTo (command.Extent path offset) r = IsExtent r
IsAnswerTo command.Df r = IsSpace r
IsAnswerTo command.Statfs r = IsUsage r
IsAnswerTo command.SnapList r = IsSnapshots r
IsAnswerTo (command.Within name call) r = IsAnswerToPath call r
IsAnswerTo other r = IsDone r

-- a refusal, or else this
abbrev pub IsRefusalOr : Type 0 → Reply → Type 0
IsRefusalOr P (reply.Refused errno) = Unit {0}
IsRefusalOr P other = P

-- a reply of the command's own kind, or a refusal
abbrev pub IsReplyTo : Command → Reply → Type 0
IsReplyTo command r = IsRefusalOr (IsAnswerTo command r) r
