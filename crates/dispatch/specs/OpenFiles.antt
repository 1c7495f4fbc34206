-- What calls on descriptors come to on a mounted system.
use Rattle.std.specs.Prelude.{ℕ, ◌≡◌, ◌≤◌, ◌<◌, Bool, true, false, List, IsSome, Option, Some, None}
use Rattle.model.specs.declared.session.Session.{Session}
use Rattle.model.specs.declared.limits.Limits.{Limits}
use Rattle.model.specs.Paths.{Name}
use Rattle.model.specs.Room.{Need}
use Rattle.model.specs.Trees.{Description, Tree}
use Rattle.model.specs.Volumes.{Volume, is_numbered}
use Rattle.model.specs.declared.command.Command.{Command}
use Rattle.model.specs.declared.command.Command.TheVariants as command
use Rattle.model.specs.declared.limits.TheConstants.{GREATEST_OFFSET, OPEN_FILES}
use Rattle.model.specs.declared.reply.Reply.{Reply}
use Rattle.paths.specs.Numbers.{IsInodeNumber}
use Rattle.descriptors.specs.Files.{KeepsBounds, description_of}
use Rattle.descriptors.specs.Fits.{IsFileOf}
use Rattle.descriptors.specs.Tables.{HasRoom, put_open}
use Rattle.descriptors.specs.declared.table.Descriptors.{Descriptors}
use Rattle.files.specs.Writing.{moved_to}
use Rattle.dispatch.specs.Serving.{WouldCall}
use Rattle.system.specs.Systems.{state_with}
use Rattle.dispatch.specs.declared.table_move.TableMove.{TableMove}
use Rattle.dispatch.specs.declared.table_move.TableMove.TheVariants.{Stays, Moves, Opens}

-- the call looks at the table of open files alone
abbrev pub is_table_call : Command → Bool
is_table_call (command.Lseek fd whence offset) = true
is_table_call (command.Fsync fd) = true
is_table_call _ = false

-- the call only reads a file that is open
abbrev pub is_looking_call : Command → Bool
is_looking_call (command.Read fd count) = true
is_looking_call (command.Pread fd offset count) = true
is_looking_call (command.Fstat fd) = true
is_looking_call (command.Fattr fd) = true
is_looking_call _ = false

-- so a call on a mounted volume with these descriptors would be answered, and these would be left
abbrev pub WouldLead : Limits → Session → Volume → (ℕ → Option Description) → Command → Reply → Volume → (ℕ → Option Description) → Need → Type 0
WouldLead limits said v table call reply w after need =
    (snapshots : List (Name × Tree)) → WouldCall (state_with limits said v table snapshots) call reply (state_with limits said w after snapshots) need

-- the descriptors behind what a call does to them
abbrev pub moved_table : TableMove → (ℕ → Option Description) → ℕ → Option Description
moved_table Stays table = table
moved_table (Moves fd place) table = moved_to fd place table
moved_table (Opens fd file) table = put_open fd (Some (description_of file)) table

-- it can be done to these descriptors: an offset moves where one is open, and a file is opened
-- where none is
abbrev pub CanMove : (ℕ → Option Description) → TableMove → Type 0
CanMove table Stays = Unit {0}
CanMove table (Moves fd place) = IsSome (table fd) × (place ≤ GREATEST_OFFSET)
CanMove table (Opens fd file) = (fd < OPEN_FILES) × (table fd ≡ None) × KeepsBounds file

-- memory has room for it in this table
abbrev pub HasRoomToMove : Descriptors → TableMove → Type 0
HasRoomToMove files Stays = Unit {0}
HasRoomToMove files (Moves fd place) = Unit {0}
HasRoomToMove files (Opens fd file) = HasRoom files fd

-- what is opened has a number of an object, in an image of so many inodes
abbrev pub OpensNumber : ℕ → TableMove → Type 0
OpensNumber inodes Stays = Unit {0}
OpensNumber inodes (Moves fd place) = Unit {0}
OpensNumber inodes (Opens fd file) = IsInodeNumber inodes file.number

-- what is opened is a file of the volume
abbrev pub FitsMove : Volume → TableMove → Type 0
FitsMove v Stays = Unit {0}
FitsMove v (Moves fd place) = Unit {0}
FitsMove v (Opens fd file) = IsFileOf v file

-- the files that are open with these descriptors are so with others
abbrev pub KeepsOpen : (ℕ → Option Description) → (ℕ → Option Description) → Type 0
KeepsOpen table after = (d n : ℕ) → is_numbered (table d) n ≡ true → is_numbered (after d) n ≡ true
