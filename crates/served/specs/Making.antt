-- What requests come to that make objects and names. `k` is what the server knows.
use Rattle.std.specs.Prelude.{ℕ, ◌%◌, ◌==◌, not, bit_and, bit_or, Bool, true, false, List, [], Option, Some, None, Result, Ok, Err, if◌then◌else◌}
use Rattle.file_system.specs.declared.handle.Handle.{Handle}
use Rattle.fuse.specs.declared.attributes.Entry.{Entry}
use Rattle.fuse.specs.declared.open_reply.OpenReply.{OpenReply}
use Rattle.fuse.specs.declared.open_reply.TheConstants.{FOPEN_KEEP_CACHE}
use Rattle.model.specs.declared.command.Command.TheVariants as command
use Rattle.model.specs.declared.command.PathCall.TheVariants as call
use Rattle.model.specs.declared.errno.Errno.{Errno}
use Rattle.model.specs.declared.errno.Errno.TheVariants as errno
use Rattle.model.specs.declared.limits.TheConstants.{OPEN_FILES}
use Rattle.model.specs.declared.reply.Reply.TheVariants as reply
use Rattle.model.specs.declared.reply.Stat.{Stat}
use Rattle.served.specs.Commands.{lstat, opening}
use Rattle.served.specs.Keeping.{opened_more}
use Rattle.served.specs.Known.{Known, marks_at, with_marks, with_removed}
use Rattle.served.specs.Looking.{is_snapshots, is_stale, no_memory, tell_entry}
use Rattle.served.specs.Marks.{changed, made, written}
use Rattle.served.specs.Nodes.{node_of}
use Rattle.served.specs.Setting.{Told, refused}
use Rattle.served.specs.Telling.{attributes_of, entry_of, parts_of_size}
use Rattle.served.specs.Turns.{Turn, ◌▹◌, asks_for, either, gives, handle_now, told_done, told_open, with_path}
use Rattle.served.specs.declared.answer.Answer.TheVariants as answer
use Rattle.served.specs.declared.making.New.{New}
use Rattle.served.specs.declared.making.TheConstants.{EXCLUSIVE, FILE_KIND, KIND_BITS, SET_GROUP}
use Rattle.served.specs.declared.marks.Asker.{Asker}
use Rattle.served.specs.declared.memory.Removed.{Removed}

-- Where something is made: its directory, its path, whose group it gets, and whether the
-- directory's mode says so, which a new directory's mode then says too.
pub record Place : Type 0 where
  pub parent : Handle
  pub path : List ℕ
  pub gid : ℕ
  pub inherits : Bool

abbrev pub place_of : New → Place
place_of n = record { parent = n.parent; path = n.path.items; gid = n.gid; inherits = n.inherits }

abbrev pub placed : Result New Errno → Result Place Errno
placed (Ok n) = Ok (place_of n)
placed (Err e) = Err e

-- in a directory of this mode: it has its group with the bit of set-group, else the asker's
abbrev pub place_in : Known → Asker → Handle → List ℕ → ℕ → Place
place_in k asker parent path mode =
    let inherits = not (bit_and mode SET_GROUP == 0) in
    record {
      parent = parent;
      path = path;
      gid = if inherits then (marks_at k parent).gid else asker.gid;
      inherits = inherits;
    }

-- the directory is looked at in which something is to be made, at a path
abbrev pub prepare_at : Known → Asker → ℕ → List ℕ → Turn (Result Place Errno)
prepare_at k asker parent path = with_path (Err errno.ENOMEM) parent [] (λ directory.
    asks_for reply.Stat (lstat directory) (λ e. gives (Err e)) (λ stat.
    handle_now parent ▹ (λ handle. gives (Ok (place_in k asker handle path stat.mode)))))

-- and so of what is to have a name, unless the folder of snapshots has it
abbrev pub prepare_named : Known → Asker → ℕ → List ℕ → Turn (Result Place Errno)
prepare_named k asker parent name = with_path (Err errno.ENOMEM) parent name (λ path. prepare_at k asker parent path)

unfoldable pub prepare : Known → Asker → ℕ → List ℕ → Turn (Result Place Errno)
prepare k asker parent name =
    either (is_snapshots parent name) (gives (Err errno.EEXIST)) (prepare_named k asker parent name)

-- something is made in such a place
abbrev pub makes : Known → Asker → ℕ → List ℕ → (Place → Turn Told) → Turn Told
makes k asker parent name made = prepare k asker parent name ▹ (λ found. elim found [
  | Ok place ↦ made place
  | Err e ↦ refused k e
])

-- the names in a directory changed now
abbrev pub touched : Known → Asker → Handle → Known
touched k asker directory = with_marks directory (written asker.now (marks_at k directory)) k

-- what is told of an object changed now
abbrev pub marked_changed : Known → Asker → Handle → Known
marked_changed k asker handle = with_marks handle (changed asker.now (marks_at k handle)) k

-- an object was made: its entry, and its marks are the asker's
abbrev pub enters : Known → Asker → Place → Stat → Turn (Entry × Known)
enters k asker place stat = handle_now stat.number ▹ (λ handle.
    let marks = made asker.uid place.gid asker.now in
    gives (
      entry_of (node_of handle) handle.generation (attributes_of stat.number stat (parts_of_size stat.size) marks),
      touched (with_marks handle marks k) asker place.parent,
    ))

-- what was made is looked at
abbrev pub tell_made : Known → Asker → Place → Turn Told
tell_made k asker place = asks_for reply.Stat (lstat place.path) (refused k) (λ stat.
    enters k asker place stat ▹ (λ made. gives (answer.Entry made.0, made.1)))

-- a new directory's mode
abbrev pub directory_mode : ℕ → Bool → ℕ
directory_mode mode inherits = if inherits then bit_or (mode % 4096) SET_GROUP else mode % 4096

-- MKDIR
abbrev pub make_directory : Known → Asker → ℕ → List ℕ → ℕ → Turn Told
make_directory k asker parent name mode = makes k asker parent name (λ place.
    asks_for told_done (command.Path (call.Mkdir place.path (directory_mode mode place.inherits))) (refused k)
    (λ d. tell_made k asker place))

-- SYMLINK
abbrev pub make_link : Known → Asker → ℕ → List ℕ → List ℕ → Turn Told
make_link k asker parent name text = makes k asker parent name (λ place.
    asks_for told_done (command.Path (call.Symlink text place.path)) (refused k) (λ d. tell_made k asker place))

-- a file is made and opened, and exclusively where nothing may be there
abbrev pub makes_open : Known → Asker → ℕ → List ℕ → ℕ → Bool → (ℕ → Entry × Known → Turn Told) → Turn Told
makes_open k asker parent name mode exclusive rest = makes k asker parent name (λ place.
    asks_for told_open (command.OpenStat place.path (opening true exclusive) (mode % 4096) OPEN_FILES) (refused k) (λ found.
    enters k asker place found.1 ▹ rest found.0))

-- the reply for a descriptor: what the kernel has of the file's bytes holds on
abbrev pub opened : ℕ → OpenReply
opened fd = record { handle = fd; flags = FOPEN_KEEP_CACHE }

-- CREATE
abbrev pub create : Known → Asker → ℕ → List ℕ → ℕ → ℕ → Turn Told
create k asker parent name mode flags =
    makes_open k asker parent name mode (not (bit_and flags EXCLUSIVE == 0)) (λ fd made.
    gives (answer.Created made.0 (opened fd), made.1))

-- MKNOD: a file alone, which is closed again
abbrev pub make_node : Known → Asker → ℕ → List ℕ → ℕ → Turn Told
make_node k asker parent name mode =
    either (bit_and mode KIND_BITS == FILE_KIND)
    (makes_open k asker parent name mode true (λ fd made.
    asks_for told_done (command.Close fd) (refused made.1) (λ d. gives (answer.Entry made.0, made.1))))
    (refused k errno.EPERM)

-- a file got one more name: it is looked at by the old one
abbrev pub tell_linked : Known → Asker → Handle → ℕ → List ℕ → Turn Told
tell_linked k asker file parent old = handle_now parent ▹ (λ directory.
    let known = touched (marked_changed k asker file) asker directory in
    asks_for reply.Stat (lstat old) (refused known) (λ stat.
    tell_entry known old stat ▹ (λ told. gives (told, known))))

-- a file gets one more name, at a path
abbrev pub link_at : Known → Asker → Handle → ℕ → List ℕ → Turn Told
link_at k asker file parent path = with_path (no_memory, k) file.number [] (λ old.
    asks_for told_done (command.Path (call.Link old path)) (refused k) (λ d. tell_linked k asker file parent old))

-- LINK: a file gets one more name, unless the folder of snapshots has it
abbrev pub link_named : Known → Asker → Handle → ℕ → List ℕ → Turn Told
link_named k asker file parent name = with_path (no_memory, k) parent name (λ path. link_at k asker file parent path)

abbrev pub link : Known → Asker → Handle → ℕ → List ℕ → Turn Told
link k asker file parent name = either (is_snapshots parent name) (refused k errno.EEXIST) (link_named k asker file parent name)

-- a file that has no name any more is opened by what is kept of it
abbrev pub open_held : Known → ℕ → Removed → Option ℕ → Told
open_held k node removed (Some fd) = (answer.Opened (opened fd), with_removed node (opened_more removed) k)
open_held k node removed None = (answer.Refused errno.ESTALE, k)

abbrev pub open_gone : Known → ℕ → Option Removed → Told
open_gone k node (Some removed) = open_held k node removed removed.held
open_gone k node None = (answer.Refused errno.ESTALE, k)

abbrev pub open_removed : Known → ℕ → Told
open_removed k node = open_gone k node (k.removed node)

-- OPEN
abbrev pub open_file : Known → ℕ → ℕ → Turn Told
open_file k node number = with_path (no_memory, k) number [] (λ path.
    asks_for reply.Fd (command.Open path (opening false false) 0 OPEN_FILES)
    (λ e. either (is_stale e) (gives (open_removed k node)) (refused k e))
    (λ fd. gives (answer.Opened (opened fd), k)))
