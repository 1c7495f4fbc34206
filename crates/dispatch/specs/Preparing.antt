-- Calls that are prepared: what they are to do, of which nothing is seen yet.
use Rattle.std.specs.Prelude.{ℕ, ◌≡◌, ◌≤◌, Bool, true, false, List, length, IfOk, IfSome, Option, Some, None, Result, Ok, Err}
use Rattle.model.specs.declared.limits.Limits.{Limits}
use Rattle.layout.specs.StateLimits.{limits_of}
use Rattle.station.specs.declared.station.Station.{Ghosts}
use Rattle.layout.specs.Record.{Change, Edit, stamped, write}
use Rattle.model.specs.Records.{Applies, applied, work_of}
use Rattle.model.specs.Replies.{IsReplyTo}
use Rattle.model.specs.Room.{logs, nothing}
use Rattle.model.specs.declared.session.Session.{Session}
use Rattle.model.specs.Sessions.{IsSession, kept_time}
use Rattle.model.specs.Steps.{is_reading_call}
use Rattle.model.specs.Trees.{Description}
use Rattle.model.specs.Volumes.{IsMounted, Volume, swept}
use Rattle.model.specs.declared.command.Command.{Command}
use Rattle.model.specs.declared.command.Command.TheVariants as command
use Rattle.model.specs.declared.command.Flags.{Flags}
use Rattle.model.specs.declared.errno.Errno.{Errno}
use Rattle.model.specs.declared.limits.TheConstants.{TRANSFER_BYTES}
use Rattle.model.specs.declared.reply.Reply.{Reply}
use Rattle.model.specs.declared.reply.Reply.TheVariants.{Refused}
use Rattle.buffers.specs.declared.blocks.Blocks as blocks
use Rattle.inofile.specs.declared.inode_file.InodeFile.{InodeFile}
use Rattle.images.specs.Roots.{whole}
use Rattle.loading.specs.Images.{inodes_of}
use Rattle.descriptors.specs.Fits.{FitsVolume}
use Rattle.descriptors.specs.Tables.{table_of}
use Rattle.descriptors.specs.declared.table.Descriptors.{Descriptors}
use Rattle.records.specs.Prepared.{Does, IsReady}
use Rattle.records.specs.declared.failure.Failure.{Failure}
use Rattle.calls.specs.Changing.{said_by}
use Rattle.calls.specs.declared.changed.Changing.{Changing}
use Rattle.calls.specs.Preparing.{IsTimed}
use Rattle.files.specs.Preparing.{Changes, PreparesOpen}
use Rattle.dispatch.specs.OpenFiles.{CanMove, FitsMove, HasRoomToMove, OpensNumber, WouldLead, moved_table}
use Rattle.dispatch.specs.Serving.{IsAccepted}
use Rattle.system.specs.Systems.{Parts, system_parts, blocks_with}
use Rattle.dispatch.specs.declared.prepared_call.CallRecord.{CallRecord}
use Rattle.dispatch.specs.declared.prepared_call.CallRecord.TheVariants.{Says, Writes}
use Rattle.dispatch.specs.declared.prepared_call.PreparedCall.{PreparedCall}
use Rattle.dispatch.specs.declared.prepared_call.PreparedChange.{PreparedChange}
use Rattle.system.specs.declared.system.System.{System}
use Rattle.dispatch.specs.declared.table_move.TableMove.{TableMove}

-- a command logs nothing, whatever it comes to: it is no call, or one that only looks, or closes a
-- file
abbrev pub only_looks : Command → Bool
only_looks (command.Path call) = is_reading_call call
only_looks (command.Open path flags mode below) = false
only_looks (command.OpenStat path flags mode below) = false
only_looks (command.Write fd given) = false
only_looks (command.Pwrite fd offset given) = false
only_looks (command.Ftruncate fd size) = false
only_looks (command.Fchmod fd mode) = false
only_looks (command.Fchown fd owner group) = false
only_looks (command.Futimens fd time) = false
only_looks _ = true

-- the call opens a file, and is told of it or not
abbrev pub opening_call : Bool → List ℕ → Flags → ℕ → ℕ → Command
opening_call false path flags mode below = command.Open path flags mode below
opening_call true path flags mode below = command.OpenStat path flags mode below

-- what the record of a call says
abbrev pub recorded : CallRecord → Edit
recorded (Says change) = said_by change
recorded (Writes number offset bytes) = write number offset bytes.now

-- the same with its time
abbrev pub logged_by : PreparedChange → Change
logged_by c = stamped c.time (recorded c.record)

-- the log takes it: bytes that are written are some, and not too many
abbrev pub KeepsRecord : CallRecord → Type 0
KeepsRecord (Says change) = Unit {0}
KeepsRecord (Writes number offset bytes) = (1 ≤ length bytes.now) × (length bytes.now ≤ TRANSFER_BYTES)

-- What a call with this reply comes to that does what this record says, behind which a file may
-- have to be swept, and this to the table: it applies, and needs room for its work.
abbrev pub DoesRecord : Limits → Session → Volume → (ℕ → Option Description) → Command → Reply → TableMove → Change → Type 0
DoesRecord limits said v table call reply move change =
    let after = swept table (applied change v) in
    Applies limits v change × IsMounted after table × FitsMove after move
    × WouldLead limits said v table call reply after (moved_table move table) (logs (work_of v change))

-- the same of a call that may do nothing else
abbrev pub DoesBeside : Limits → Session → Volume → (ℕ → Option Description) → Command → Reply → TableMove → Option PreparedChange → Type 0
DoesBeside limits said v table call reply move None =
    FitsMove v move × WouldLead limits said v table call reply v (moved_table move table) nothing
DoesBeside limits said v table call reply move (Some c) =
    DoesRecord limits said v table call reply move (logged_by c)

-- what a call comes to: a refusal, or what is to be done
abbrev pub DoesCall : Limits → Session → Volume → (ℕ → Option Description) → Command → Result PreparedCall Errno → Type 0
DoesCall limits said v table call (Err errno) = WouldLead limits said v table call (Refused errno) v table nothing
DoesCall limits said v table call (Ok p) = DoesBeside limits said v table call p.reply p.table p.change

-- a change whose record says what it does, if there is one
abbrev pub said_change : Option Changing → Option PreparedChange
said_change None = None
said_change (Some c) = Some (record { time = c.time; «record» = Says c.change; prepared = c.prepared })

-- what is prepared beside the table, if anything is
abbrev pub of_prepared : Changes PreparedCall
of_prepared p P = IfSome p.change (λ c. P c.prepared (logged_by c))

-- What a call is to do can be done to these descriptors, and goes into the log; its reply is of the
-- call's kind.
pub record MayDo (inodes : ℕ) (files : Descriptors) (call : Command) (p : PreparedCall) : Type 0 where
  pub kind : IsReplyTo call p.reply
  pub accepted : IsAccepted p.reply
  pub moves : CanMove (table_of files) p.table
  pub numbered : OpensNumber inodes p.table
  pub limits : IfSome p.change (λ c. KeepsRecord c.record)

-- What a call is to do is prepared on the image in memory, as far as nothing of it is seen yet; or
-- why it is refused.
abbrev pub PreparesCall : {B : Type 0} → blocks.Ghosts B → B → B → InodeFile → InodeFile → Session → Descriptors → Command → Result PreparedCall Failure → Type 0
PreparesCall G blocks after s t said files call result =
    PreparesOpen of_prepared (MayDo s.geometry.inodes files call) (kept_time (limits_of s.geometry) said.time) G blocks after s t files (λ v. DoesCall (limits_of s.geometry) said v (table_of files) call) result

-- what is prepared can be done to what a system has: the log takes its record, and memory has room
-- for its change, and for what it opens
pub record CanCarryOut (k : Parts) (p : PreparedCall) : Type 0 where
  pub moves : CanMove (table_of k.files) p.table
  pub numbered : OpensNumber k.inodes.geometry.inodes p.table
  pub room : HasRoomToMove k.files p.table
  pub limits : IfSome p.change (λ c. KeepsRecord c.record)
  pub ready : IfSome p.change (λ c. IsReady k.inodes c.prepared)

-- A call is prepared on a system, or refused: nothing is done but reading blocks, bringing objects
-- into memory, and making room in the table of open files.
pub record PreparesOn {S : Type 0} {G : Ghosts S} (old new : System S G) (call : Command) (result : Result PreparedCall Failure) : Type 0 where
  pub parts : system_parts new ≡ record (system_parts old) {
    kept = new.blocks.buffers.kept;
    pending = new.blocks.pending;
    inodes = new.inodes;
    files = new.files;
  }
  pub prepares : PreparesCall (blocks_with G) old.blocks new.blocks old.inodes new.inodes old.session old.files call result
  pub said : IsSession old.session
  pub table : table_of new.files ≡ table_of old.files
  pub fits : (v : Volume) → FitsVolume old.files v → FitsVolume new.files v
  pub can : IfOk result (CanCarryOut (system_parts new))

-- where memory stands for this volume over this disk, it does what the call does, at the time of
-- calls
pub record IsPreparedAt (k : Parts) (disk : ℕ → List ℕ) (v : Volume) (call : Command) (p : PreparedCall) : Type 0 where
  pub said : IsSession k.session
  pub timed : IfSome p.change (λ c. IsTimed (kept_time (limits_of k.root.geometry) k.session.time) (logged_by c))
  pub does : IfSome p.change (λ c. Does disk (inodes_of (whole disk k.root).active) k.inodes v c.prepared (logged_by c))
  pub comes : DoesBeside (limits_of k.root.geometry) k.session v (table_of k.files) call p.reply p.table p.change
