-- What becomes of a file's bytes.
use Rattle.std.specs.Prelude.{ℕ, ◌≡◌, ◌+◌, ◌≤◌, List, length, Option, Some, None, Result, IfOk, IfSome, IsErrOf, OnOk}
use Rattle.layout.specs.FileBytes.{EndsAt}
use Rattle.layout.specs.Trees.{greatest_size}
use Rattle.layout.specs.declared.kind.Kind.TheVariants as kinds
use Rattle.model.specs.Edits.{resized, written}
use Rattle.model.specs.Records as records
use Rattle.model.specs.declared.limits.Limits.{Limits}
use Rattle.model.specs.declared.limits.TheConstants.{MODE_BITS, TRANSFER_BYTES}
use Rattle.buffers.specs.Reads.{ReadsBlocks}
use Rattle.buffers.specs.declared.blocks.Blocks.{Ghosts}
use Rattle.buffers.specs.Errors.{IsFault}
use Rattle.blocktree.specs.Trees.{IsSoundAt}
use Rattle.buffers.specs.declared.error.BlockError.{BlockError}
use Rattle.buffers.specs.declared.error.BlockError.TheVariants.{Damaged}
use Rattle.images.specs.Edges.{EndsIn, IsPartlyWritten}
use Rattle.images.specs.Sizes.{TellsBlocks}
use Rattle.images.specs.Soundness.{Detail, by_bytes, by_sizes}
use Rattle.inode.specs.Files.{Fits, IsFile, IsSameFile, block_with, bytes_of_file, bytes_with, byte_with, file_block}
use Rattle.inode.specs.Room.{StoresMore, size_room, write_room}
use Rattle.inode.specs.declared.file_update.FileUpdate.{FileUpdate}
use Rattle.inode.specs.declared.file.File.{File}
use Rattle.inode.specs.declared.object.Object.{Object}
use Rattle.records.specs.declared.contents.Rewrite.{Rewrite}
use Rattle.records.specs.declared.contents.Rewrite.TheVariants.{Write, Truncate, Set}

-- the record of such a change of the file with this number
abbrev pub rewriting : ℕ → Rewrite → records.Edit
rewriting number (Write offset bytes) = records.write number offset bytes.now
rewriting number (Truncate size) = records.truncate number size
rewriting number (Set mode size) = records.set_file number mode size

-- the bytes that it makes of others
abbrev pub bytes_after : Rewrite → List ℕ → List ℕ
bytes_after (Write offset bytes) = written offset bytes.now
bytes_after (Truncate size) = resized size
bytes_after (Set mode size) = resized size

-- the mode that the file gets with them, if it gets one
abbrev pub mode_after : Rewrite → Option ℕ
mode_after (Write offset bytes) = None
mode_after (Truncate size) = None
mode_after (Set mode size) = Some mode

-- so many blocks more it stores at the most, of a file of this size
abbrev pub rewrite_room : ℕ → Rewrite → ℕ
rewrite_room size (Write offset bytes) = write_room size offset (length bytes.now)
rewrite_room size (Truncate to) = size_room size to
rewrite_room size (Set mode to) = size_room size to

-- the bytes up to where it writes or cuts
abbrev pub end_of : Rewrite → ℕ
end_of (Write offset bytes) = offset + length bytes.now
end_of (Truncate size) = size
end_of (Set mode size) = size

-- it writes something, and not too much at once
abbrev pub KeepsRecordBounds : Rewrite → Type 0
KeepsRecordBounds (Write offset bytes) = (1 ≤ length bytes.now) × (length bytes.now ≤ TRANSFER_BYTES)
KeepsRecordBounds (Truncate size) = Unit {0}
KeepsRecordBounds (Set mode size) = Unit {0}

-- it keeps to the limits
abbrev pub KeepsRewriteBounds : Limits → Rewrite → Type 0
KeepsRewriteBounds limits (Write offset bytes) =
    (1 ≤ length bytes.now) × (length bytes.now ≤ TRANSFER_BYTES) × (offset + length bytes.now ≤ limits.file_bytes)
KeepsRewriteBounds limits (Truncate size) = size ≤ limits.file_bytes
KeepsRewriteBounds limits (Set mode size) = (mode ≤ MODE_BITS) × (size ≤ limits.file_bytes)

-- a prepared change makes these bytes of those that a file has
pub record Rewrites (disk : ℕ → List ℕ) (f : List ℕ → List ℕ) (file : File) (change : FileUpdate) : Type 0 where
  pub ends : EndsAt change.size (byte_with disk file change)
  pub bytes : bytes_with disk file change ≡ f (bytes_of_file disk file)

-- Of so many bytes as a file has, it makes as many as the file has then; and where they tell which
-- blocks can be read, these do so too.
abbrev pub Resizes : (ℕ → List ℕ) → (List ℕ → List ℕ) → File → FileUpdate → Type 0
Resizes disk f file change =
    (bytes : List ℕ) → length bytes ≡ file.size → TellsBlocks (file_block disk file) bytes
    → (length (f bytes) ≡ change.size) × TellsBlocks (block_with disk file change) (f bytes)

-- a change does so with a file's bytes, in so much detail
abbrev pub RewritesFile : Detail → (ℕ → List ℕ) → (List ℕ → List ℕ) → File → FileUpdate → Type 0
RewritesFile by_bytes disk f file change = Rewrites disk f file change
RewritesFile by_sizes disk f file change = Resizes disk f file change

-- of a file of this size it leaves block i in part
abbrev pub LeavesPart : ℕ → Rewrite → ℕ → Type 0
LeavesPart size (Write offset bytes) i = IsPartlyWritten offset (length bytes.now) i
LeavesPart size (Truncate to) i = EndsIn size to i
LeavesPart size (Set mode to) i = EndsIn size to i

-- the blocks of a file that are left in part are sound
abbrev pub ArePartsSound : ℕ → (ℕ → List ℕ) → (ℕ → Type 0) → File → Type 0
ArePartsSound count disk Part file = (i : ℕ) → Part i → IsSoundAt count disk file.tree i

-- they can be read
abbrev pub ArePartsWhole : (ℕ → List ℕ) → (ℕ → Type 0) → File → Type 0
ArePartsWhole disk Part file = (i : ℕ) → Part i → length (file_block disk file i) ≡ 4096

-- a file of this layout can have so many bytes
abbrev pub CanEndAt : ℕ → File → Type 0
CanEndAt end file = end ≤ greatest_size file.tree.layout

-- the same of an object, where it is a file; and it can have the bytes that it is to have
abbrev pub IsSoundIn : ℕ → (ℕ → List ℕ) → Rewrite → Object → Type 0
IsSoundIn count disk rewrite o =
    o.status.kind ≡ kinds.File
    → ArePartsSound count disk (LeavesPart o.file.size rewrite) o.file × CanEndAt (end_of rewrite) o.file

abbrev pub IsWholeIn : (ℕ → List ℕ) → Rewrite → Object → Type 0
IsWholeIn disk rewrite o = o.status.kind ≡ kinds.File → ArePartsWhole disk (LeavesPart o.file.size rewrite) o.file

-- A change of a file's bytes up to an end is prepared that makes these of them, stores so many
-- blocks more at the most, and reads those that it leaves in part. The file stays the same until it
-- is put in force.
pub record PlansFile {B : Type 0} (G : Ghosts B) (blocks after : B) (file new : File) (f : List ℕ → List ℕ) (end more : ℕ) (Part : ℕ → Type 0) (result : Result FileUpdate BlockError) : Type 0 where
  pub reads : ReadsBlocks G IsFault blocks after result
  pub same : IsSameFile file new
  pub fits : IfOk result (Fits new.tree)
  pub stores : IfOk result (λ w. StoresMore new w more)
  pub rewrites : (disk : ℕ → List ℕ) → G.Shows blocks disk → IsFile disk file → IfOk result (Rewrites disk f new)
  pub sizes : (disk : ℕ → List ℕ) → G.Shows blocks disk → IfOk result (Resizes disk f new)
  pub whole : (disk : ℕ → List ℕ) → G.Shows blocks disk → OnOk result (ArePartsWhole disk Part file)
  pub damaged : (disk : ℕ → List ℕ) → G.Shows blocks disk → IsErrOf result Damaged
      → ArePartsSound (G.count blocks) disk Part file → CanEndAt end file → ⊥

-- there is an object, and a change does so with its bytes
abbrev pub RewritesIn : Detail → (ℕ → List ℕ) → (List ℕ → List ℕ) → Option Object → FileUpdate → Type 0
RewritesIn detail disk f (Some o) change = RewritesFile detail disk f o.file change
RewritesIn detail disk f None change = ⊥

-- a change of an object's bytes stores no more than such a one
abbrev pub RewriteRoom : Rewrite → Option Object → FileUpdate → Type 0
RewriteRoom rewrite o change = IfSome o (λ x. StoresMore x.file change (rewrite_room x.file.size rewrite))

-- there is an object, and it has room for a change of its bytes
abbrev pub FitsFile : Option Object → FileUpdate → Type 0
FitsFile (Some o) change = Fits o.file.tree change
FitsFile None change = ⊥
