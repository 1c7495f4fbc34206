-- Which commands change something, and how many of them a request comes to.
use Rattle.std.specs.Prelude.{ℕ, ◌≡◌, ◌≤◌, ◌==◌, ◌&&◌, ◌||◌, not, Bool, true, false, List, count_by}
use Rattle.fuse.specs.Operation as asked
use Rattle.fuse.specs.Operation.{OperationValue}
use Rattle.model.specs.declared.command.Command.{Command}
use Rattle.model.specs.declared.command.Command.TheVariants as command
use Rattle.model.specs.declared.command.PathCall.{PathCall}
use Rattle.model.specs.declared.command.PathCall.TheVariants as call
use Rattle.model.specs.declared.errno.Errno.TheVariants.{EIO}
use Rattle.model.specs.declared.reply.Reply.{Reply}
use Rattle.model.specs.declared.reply.Reply.TheVariants.{Refused}
use Rattle.served.specs.Known.{Known}
use Rattle.served.specs.Requests.{answers, descriptor}
use Rattle.served.specs.Setting.{Told}
use Rattle.served.specs.Turns.{Step}
use Rattle.served.specs.declared.marks.Asker.{Asker}
use Rattle.served.specs.declared.numbers.TheConstants.{MOST_PARTS}

-- the call by a path may change the tree
abbrev pub call_changes : PathCall → Bool
call_changes (call.List path) = false
call_changes (call.Entries path after count) = false
call_changes (call.Stat path) = false
call_changes (call.Lstat path) = false
call_changes (call.Attr path follow) = false
call_changes (call.Readlink path) = false
call_changes (call.Get path offset count) = false
call_changes (call.Mkdir path mode) = true
call_changes (call.Rmdir path) = true
call_changes (call.Unlink path) = true
call_changes (call.Link old new) = true
call_changes (call.Symlink text path) = true
call_changes (call.Rename old new) = true
call_changes (call.RenameNew old new) = true
call_changes (call.Chmod path mode) = true
call_changes (call.Chown path follow owner group) = true
call_changes (call.Utimens path follow time) = true
call_changes (call.Truncate path size) = true
call_changes (call.Store path offset given) = true
call_changes (call.Set path settings) = true

-- The command may change what a cut leaves of the running tree or of the snapshots. `close` doesn't:
-- a file that goes with its last descriptor has no name, and no cut leaves it.
abbrev pub changes : Command → Bool
changes (command.Path c) = call_changes c
changes (command.Open path flags mode below) = flags.creates || flags.truncates
changes (command.OpenStat path flags mode below) = flags.creates || flags.truncates
changes (command.Close fd) = false
changes (command.Read fd count) = false
changes (command.Write fd given) = true
changes (command.Pread fd offset count) = false
changes (command.Pwrite fd offset given) = true
changes (command.Lseek fd whence offset) = false
changes (command.Ftruncate fd size) = true
changes (command.Fchmod fd mode) = true
changes (command.Fchown fd owner group) = true
changes (command.Futimens fd time) = true
changes (command.Fstat fd) = false
changes (command.Fattr fd) = false
changes (command.Fsync fd) = false
changes (command.Extent path offset) = false
changes (command.At seconds nanoseconds) = false
changes (command.As owner group) = false
changes command.Sync = false
changes command.Df = false
changes command.Statfs = false
changes (command.SnapTake name) = true
changes (command.SnapDelete name) = true
changes (command.SnapRestore name) = true
changes command.SnapList = false
changes (command.Within name c) = false

-- the command was refused, which changes nothing; but where it was with EIO, a cut may leave what it asked
abbrev pub is_undone : Reply → Bool
is_undone (Refused EIO) = false
is_undone (Refused errno) = true
is_undone _ = false

-- it may have changed something
abbrev pub has_changed : Step → Bool
has_changed step = changes step.asked && not (is_undone step.answer)

-- how many commands that change something each request comes to at most; all others to none
abbrev pub most_changes : OperationValue → ℕ
most_changes (asked.set_attributes settings) = 1
most_changes (asked.symbolic_link name text) = 1
most_changes (asked.make_node name mode device umask) = 1
most_changes (asked.make_directory name mode umask) = 1
most_changes (asked.unlink name) = 1
most_changes (asked.remove_directory name) = 1
most_changes (asked.rename name new_parent new_name flags) = 1
most_changes (asked.link name file) = 1
most_changes (asked.create name mode umask flags open_flags) = 1
most_changes (asked.write handle offset bytes write_flags flags) = MOST_PARTS
most_changes _ = 0

-- A request comes to so many commands at most that change something and aren't refused.
abbrev pub ChangesAreFew : Type 0
ChangesAreFew =
    (k : Known) (by : Asker) (node : ℕ) (operation : OperationValue)
    → (generations : ℕ → ℕ) (steps : List Step) (told : Told)
    → answers k by node operation generations steps told → count_by has_changed steps ≤ most_changes operation

-- the command writes a part by this descriptor
abbrev pub is_part : ℕ → Command → Bool
is_part fd (command.Pwrite own offset given) = own == fd
is_part fd _ = false

-- something else is asked that may change something, though it be refused
abbrev pub changes_else : ℕ → Step → Bool
changes_else fd step = changes step.asked && not (is_part fd step.asked)

-- WRITE comes to no command that may change something but to `pwrite` by its own descriptor.
abbrev pub WritesChangeByParts : Type 0
WritesChangeByParts =
    (k : Known) (by : Asker) (node handle offset : ℕ) (bytes : List ℕ) (write_flags flags : ℕ)
    → (generations : ℕ → ℕ) (steps : List Step) (told : Told)
    → answers k by node (asked.write handle offset bytes write_flags flags) generations steps told
    → count_by (changes_else (descriptor handle)) steps ≡ 0
