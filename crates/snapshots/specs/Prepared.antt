-- Commands that change the snapshots, once their tests are passed.
use Rattle.std.specs.Prelude.{◌≡◌, ◌≤◌, Bool, true, false, None, length}
use Rattle.layout.specs.Places.{Blocks}
use Rattle.layout.specs.Trees.{greatest_size}
use Rattle.layout.specs.declared.root.Root.{Root}
use Rattle.model.specs.Paths.{first_refusal}
use Rattle.model.specs.Room.{Room, nothing}
use Rattle.model.specs.States.{State}
use Rattle.model.specs.Steps.{WouldStep, has_open_below, take_tests}
use Rattle.model.specs.declared.command.Command.{Command}
use Rattle.model.specs.declared.command.Command.TheVariants.{SnapDelete, SnapRestore, SnapTake}
use Rattle.model.specs.declared.errno.Errno.{Errno}
use Rattle.model.specs.declared.limits.TheConstants.{OPEN_FILES, SNAPSHOT_NAME_BYTES}
use Rattle.model.specs.declared.reply.Reply.TheVariants.{Refused}
use Rattle.images.specs.Roots.{whole}
use Rattle.images.specs.Snapshots.{HasSnapshot}
use Rattle.images.specs.SnapshotSteps.{IsSlotNumber}
use Rattle.snapshots.specs.Found.{snapshot_found}
use Rattle.snapshots.specs.Taken.{MayTake}
use Rattle.snapshots.specs.declared.preparing.PreparedSnapshot.{PreparedSnapshot}
use Rattle.snapshots.specs.declared.preparing.PreparedSnapshot.TheVariants.{Delete, Restore, Take}
use Rattle.snapshots.specs.declared.preparing.SnapshotRequest.{SnapshotRequest}
use Rattle.snapshots.specs.declared.preparing.SnapshotRequest.TheVariants as request

-- the command that asks for this
abbrev pub command_of : SnapshotRequest → Command
command_of (request.Take name) = SnapTake name.now
command_of (request.Delete name) = SnapDelete name.now
command_of (request.Restore name) = SnapRestore name.now

-- the command that this was prepared for
abbrev pub command_prepared : PreparedSnapshot → Command
command_prepared (Take name taking) = SnapTake name.now
command_prepared (Delete name found) = SnapDelete name.now
command_prepared (Restore name found) = SnapRestore name.now

-- its slot is one of a root's, and its name and its inode file have the sizes that a snapshot may
-- have
abbrev pub FitsPrepared : PreparedSnapshot → Type 0
FitsPrepared (Take name taking) = IsSlotNumber taking.slot × (length name.now ≤ SNAPSHOT_NAME_BYTES)
FitsPrepared (Delete name found) = IsSlotNumber found.slot
FitsPrepared (Restore name found) =
    IsSlotNumber found.slot × (found.inode_file.size ≤ greatest_size found.inode_file.layout)

-- At a state with these snapshots under a root its tests are passed: a snapshot of the name may be
-- taken there, or stands there; and the tree may become that of one if no file is open.
abbrev pub IsPreparedOn : Root → Blocks → State → PreparedSnapshot → Type 0
IsPreparedOn r disk s (Take name taking) = MayTake disk r name.now taking × (first_refusal (take_tests s name.now) ≡ None)
IsPreparedOn r disk s (Delete name found) = HasSnapshot r (whole disk r) found.slot (snapshot_found name.now found)
IsPreparedOn r disk s (Restore name found) =
    HasSnapshot r (whole disk r) found.slot (snapshot_found name.now found) × (s.tree.descriptors ≡ (λ fd. None))

-- this is the command's first refusal by its own tests
abbrev pub Refuses : State → Command → Errno → Type 0
Refuses s c errno = (room : Room) → WouldStep room s c (Refused errno) s nothing

-- so it is told whether a file is open
abbrev pub TellsOpen : Bool → State → Type 0
TellsOpen true s = has_open_below s.tree OPEN_FILES ≡ true
TellsOpen false s = s.tree.descriptors ≡ (λ fd. None)
