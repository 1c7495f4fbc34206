-- What requests come to that look at the running tree. `k` is what the server knows.
use Rattle.std.specs.Prelude.{ℕ, pos, ◌-◌, ◌*◌, ◌==◌, ◌&&◌, ◌||◌, ◌^◌, not, nat_lt, Bool, true, false, List, [], Option, Some, None, Ok, Err, ◌⊎◌, ◌≡◌, if◌then◌else◌}
use Rattle.std.specs.Str.{bytes_eq}
use Rattle.file_system.specs.declared.handle.Handle.{Handle}
use Rattle.fuse.specs.declared.statfs_reply.StatfsReply.{StatfsReply}
use Rattle.model.specs.declared.command.Command.TheVariants as command
use Rattle.model.specs.declared.command.PathCall.TheVariants as call
use Rattle.model.specs.declared.errno.Errno.{Errno}
use Rattle.model.specs.declared.errno.Errno.TheVariants as errno
use Rattle.model.specs.declared.limits.TheConstants.{NAME_BYTES, ROOT_NUMBER}
use Rattle.model.specs.declared.reply.Extent.{Extent}
use Rattle.model.specs.declared.reply.Reply.TheVariants as reply
use Rattle.model.specs.declared.reply.Stat.{Stat}
use Rattle.model.specs.declared.reply.Usage.{Usage}
use Rattle.served.specs.Commands.{lstat}
use Rattle.served.specs.Keeping.{removed_size}
use Rattle.served.specs.Known.{Known, marks_at}
use Rattle.served.specs.Nodes.{node_of}
use Rattle.served.specs.Telling.{attributes_of, entry_of, is_file, parts_of_size}
use Rattle.served.specs.Turns.{Turn, ◌▹◌, asks, asks_for, either, gives, gives_some, handle_now, told_done, with_path}
use Rattle.served.specs.declared.answer.Answer.{Answer}
use Rattle.served.specs.declared.answer.Answer.TheVariants as answer
use Rattle.served.specs.declared.looking.TheConstants.{SEEK_DATA, SEEK_HOLE}
use Rattle.served.specs.declared.memory.Removed.{Removed}
use Rattle.served.specs.declared.numbers.TheConstants.{BLOCK_BYTES, PARTS_OF_BLOCK}
use Rattle.served.specs.declared.snapshots.TheConstants.{SNAPSHOTS_NAME}

-- there is no memory for the text of a path
abbrev pub no_memory : Answer
no_memory = answer.Refused errno.ENOMEM

-- in the root of the running tree this is the name of the folder of snapshots
abbrev pub is_snapshots : ℕ → List ℕ → Bool
is_snapshots parent name = (parent == ROOT_NUMBER) && bytes_eq name SNAPSHOTS_NAME.now

-- how much of an object is stored, in parts of 512 bytes: of a file what `extent` tells, and by its
-- size where that is refused, or it is no file, or has no byte
abbrev pub stored_parts : List ℕ → Stat → Turn ℕ
stored_parts path stat =
    either (not (is_file stat.kind) || (stat.size == 0)) (gives (parts_of_size stat.size))
    (asks_for reply.Extent (command.Extent path (pos 0)) (λ e. gives (parts_of_size stat.size)) (λ x. gives (x.blocks * PARTS_OF_BLOCK)))

-- the entry of an object to which the path leads
abbrev pub tell_entry : Known → List ℕ → Stat → Turn Answer
tell_entry k path stat =
    stored_parts path stat ▹ (λ parts. handle_now stat.number ▹ (λ handle.
    gives (answer.Entry (entry_of (node_of handle) handle.generation (attributes_of stat.number stat parts (marks_at k handle))))))

-- a name that isn't there is told so, which the kernel remembers
abbrev pub missing : Errno → Answer
missing errno.ENOENT = answer.NoEntry
missing e = answer.Refused e

-- a number leads to nothing
abbrev pub is_stale : Errno → Bool
is_stale errno.ESTALE = true
is_stale e = false

-- the entry of an object, by its number
abbrev pub tell_number : Known → Stat → Turn Answer
tell_number k stat = with_path no_memory stat.number [] (λ path. tell_entry k path stat)

-- LOOKUP: what has a name in the directory of a number
abbrev pub look_up : Known → ℕ → List ℕ → Turn Answer
look_up k parent name = with_path no_memory parent name (λ path.
    asks_for reply.Stat (lstat path) (λ e. gives (missing e)) (tell_number k))

-- what is told of an object that has no name any more, of this size
abbrev pub removed_told : Removed → ℕ → Answer
removed_told removed size =
    let stat : Stat = record removed.stat { size = size } in
    answer.Attributes (attributes_of stat.number stat (parts_of_size size) removed.marks)

-- what has no name any more is told by the size that it has, if the kernel still knows it
abbrev pub by_size : (Removed → ℕ → Answer) → Option Removed → Turn Answer
by_size tells None = gives (answer.Refused errno.ESTALE)
by_size tells (Some removed) = removed_size removed ▹ (λ found. elim found [
  | Ok size ↦ gives (tells removed size)
  | Err e ↦ gives (answer.Refused e)
])

-- its attributes
abbrev pub tell_gone : Option Removed → Turn Answer
tell_gone gone = by_size removed_told gone

abbrev pub tell_removed : Known → ℕ → Turn Answer
tell_removed k node = tell_gone (k.removed node)

-- GETATTR: the attributes of an object
abbrev pub tell_attributes : Known → ℕ → Handle → Turn Answer
tell_attributes k node handle = with_path no_memory handle.number [] (λ path.
    asks_for reply.Stat (lstat path)
    (λ e. either (is_stale e) (tell_removed k node) (gives (answer.Refused e)))
    (λ stat. stored_parts path stat ▹ (λ parts.
    gives (answer.Attributes (attributes_of stat.number stat parts (marks_at k handle))))))

-- the text of a link that has no name any more, if there is memory for it
abbrev pub IsTextGone : Option (List ℕ) → Answer → Type 0
IsTextGone None told = told ≡ answer.Refused errno.ESTALE
IsTextGone (Some text) told = (told ≡ answer.Bytes text) ⊎ (told ≡ no_memory)

abbrev pub ReadsRemoved : Known → ℕ → Answer → Type 0
ReadsRemoved k node told = IsTextGone (k.texts node) told

-- READLINK: the text of a link
abbrev pub read_link : Known → ℕ → ℕ → Turn Answer
read_link k node number = with_path no_memory number [] (λ path.
    asks_for reply.Text (command.Path (call.Readlink path))
    (λ e. either (is_stale e) (gives_some (ReadsRemoved k node)) (gives (answer.Refused e)))
    (λ text. gives (answer.Bytes text)))

-- the place that a seek asks for
abbrev pub place_of : Option ℕ → Answer
place_of (Some place) = answer.Offset place
place_of None = answer.NothingBehind

abbrev pub found : Extent → ℕ → Answer
found x whence =
    if whence == SEEK_DATA then place_of x.data
    else (if whence == SEEK_HOLE then place_of x.hole else answer.Refused errno.EINVAL)

-- in a file that has no name any more all up to its end counts as data
abbrev pub all_data : ℕ → ℕ → Extent
all_data offset size =
    if nat_lt offset size then (record { blocks = 0; «data» = Some offset; hole = Some size })
    else (record { blocks = 0; «data» = None; hole = None })

abbrev pub seek_gone : ℕ → ℕ → Option Removed → Turn Answer
seek_gone offset whence gone = by_size (λ removed size. found (all_data offset size) whence) gone

abbrev pub seek_removed : Known → ℕ → ℕ → ℕ → Turn Answer
seek_removed k node offset whence = seek_gone offset whence (k.removed node)

-- LSEEK: where data or a hole begins in a file
abbrev pub seek : Known → ℕ → ℕ → ℕ → ℕ → Turn Answer
seek k node number offset whence =
    either (nat_lt offset (2 ^ 63)) (with_path no_memory number [] (λ path.
    asks_for reply.Extent (command.Extent path (pos offset))
    (λ e. either (is_stale e) (seek_removed k node offset whence) (gives (answer.Refused e)))
    (λ x. gives (found x whence))))
    (gives answer.NothingBehind)

-- sizes and counts of the whole file system: what is reserved isn't free
abbrev pub space_told : Usage → StatfsReply
space_told usage =
    let available = usage.free - usage.reserved in
    record {
      blocks = usage.blocks;
      free_blocks = available;
      available_blocks = available;
      files = usage.inodes;
      free_files = usage.inodes - usage.taken;
      block_size = BLOCK_BYTES;
      name_bytes = NAME_BYTES;
      fragment_size = BLOCK_BYTES;
    }

-- STATFS: behind a consistency point, if one can be made
abbrev pub tell_space : Turn Answer
tell_space = asks told_done command.Sync ▹ (λ done.
    asks_for reply.Usage command.Statfs (λ e. gives (answer.Refused e)) (λ usage. gives (answer.Space (space_told usage))))
