-- Which reply and which new state each command gives, where nothing comes in its way.
use Rattle.std.specs.Prelude.{ℕ, ℤ, zero, suc, ◌≡◌, nat_le, nat_lt, not, ◌&&◌, ◌||◌, ◌==◌, ◌-◌, length, Bool, true, false, List, [], ◌∷◌, ◌++◌, map, find, filter, bytes_eq, Option, Some, None, is_none}
use Rattle.std.specs.List.{list_any}
use Rattle.model.specs.declared.limits.TheConstants.{LINK_MODE, MOST_NANOSECONDS, OPEN_FILES, ROOT_NUMBER, SNAPSHOT_NAME_BYTES}
use Rattle.model.specs.declared.errno.Errno.TheVariants.{EBUSY, EINVAL, EROFS, BADNAME, SNAPEXISTS, NOSNAP, SNAPFULL}
use Rattle.model.specs.declared.reply.Reply.{Reply}
use Rattle.model.specs.declared.reply.Reply.TheVariants.{Done, Snaps, Space, Usage as tells, Refused}
use Rattle.model.specs.declared.reply.Usage.{Usage}
use Rattle.model.specs.declared.command.Command.{Command}
use Rattle.model.specs.declared.command.Command.TheVariants as command
use Rattle.model.specs.declared.command.PathCall.{PathCall}
use Rattle.model.specs.declared.command.PathCall.TheVariants as call
use Rattle.model.specs.declared.limits.Limits.{Limits}
use Rattle.model.specs.Paths.{Name, Tests, first_refusal}
use Rattle.model.specs.Counting.{Counts}
use Rattle.model.specs.Trees.{Tree, IsUsed}
use Rattle.model.specs.declared.session.Session.{Session}
use Rattle.model.specs.Sessions.{as_owner, at_time, call_time, new_permissions}
use Rattle.model.specs.States.{State, now_of, permissions_in, with_tree, with_snapshots, with_session, ForgetsOpenFiles}
use Rattle.model.specs.Room.{Need, nothing, a_snapshot, a_restore, Room, reserved_of}
use Rattle.model.specs.Outcomes.{Outcome}
use Rattle.model.specs.Reading.{attribute_tests, attributes, lists, tells_entries, stats, reads_link, tells_extent, gets}
use Rattle.model.specs.Changing.{changes_owners, changes_times, makes_directory, makes_symlink, removes_directory, unlinks, links, renames, changes_mode, truncates, sets}
use Rattle.model.specs.Descriptors.{opens, closes, reads, reads_from, stores, writes, writes_to, seeks, truncates_open, changes_open_mode, changes_open_owners, changes_open_times, stats_open, attributes_open, syncs_open}

-- what a command comes to: its reply, the state that it leaves, and what it needs of room
abbrev pub Step : Type 1
Step = Reply → State → Need → Type 0

-- this reply, and nothing changes
abbrev pub says : State → Reply → Step
says s answer reply new need = (reply ≡ answer) × (new ≡ s) × (need ≡ nothing)

-- the first of these tests that holds refuses the command, and else it goes on
abbrev pub passing : State → Tests → Step → Step
passing s tests rest = elim (first_refusal tests) [ Some errno ↦ says s (Refused errno) | None ↦ rest ]

-- what a call comes to on the state's tree, which alone it changes
abbrev pub on_tree : State → Outcome → Step
on_tree s outcome reply new need = outcome reply new.tree need × (new ≡ with_tree new.tree s)

-- what each call by a path comes to on a tree, in this session
abbrev pub calls : Limits → Session → Tree → PathCall → Outcome
calls limits said t (call.List path) = lists limits t path
calls limits said t (call.Entries path after count) = tells_entries limits t path after count
calls limits said t (call.Stat path) = stats limits t true path
calls limits said t (call.Lstat path) = stats limits t false path
calls limits said t (call.Attr path follow) = attributes limits t follow path
calls limits said t (call.Readlink path) = reads_link limits t path
calls limits said t (call.Get path offset count) = gets limits t path offset count
calls limits said t (call.Mkdir path mode) = makes_directory limits (call_time limits said) t path (new_permissions limits said mode)
calls limits said t (call.Rmdir path) = removes_directory limits (call_time limits said) t path
calls limits said t (call.Unlink path) = unlinks limits (call_time limits said) t path
calls limits said t (call.Link old path) = links limits (call_time limits said) t old path
calls limits said t (call.Symlink text path) = makes_symlink limits (call_time limits said) t text path (new_permissions limits said LINK_MODE)
calls limits said t (call.Rename old path) = renames limits (call_time limits said) t false old path
calls limits said t (call.RenameNew old path) = renames limits (call_time limits said) t true old path
calls limits said t (call.Chmod path mode) = changes_mode limits (call_time limits said) t path mode
calls limits said t (call.Chown path follow owner group) = changes_owners limits (call_time limits said) t follow path owner group
calls limits said t (call.Utimens path follow time) = changes_times limits (call_time limits said) t follow path time
calls limits said t (call.Truncate path size) = truncates limits (call_time limits said) t path size
calls limits said t (call.Store path offset given) = stores limits (call_time limits said) t path offset given
calls limits said t (call.Set path settings) = sets limits (call_time limits said) t path settings

-- a call that only reads
abbrev pub is_reading_call : PathCall → Bool
is_reading_call (call.List path) = true
is_reading_call (call.Entries path after count) = true
is_reading_call (call.Stat path) = true
is_reading_call (call.Lstat path) = true
is_reading_call (call.Attr path follow) = true
is_reading_call (call.Readlink path) = true
is_reading_call (call.Get path offset count) = true
is_reading_call _ = false

-- the snapshot of this name
abbrev pub frozen : State → Name → Option (Name × Tree)
frozen s name = find (λ pair. bytes_eq pair.0 name) s.snapshots

-- a byte that a snapshot's name may have: a letter, a digit, or one of `.`, `_` and `-`
abbrev pub is_name_byte : ℕ → Bool
is_name_byte b =
    (nat_le 48 b && nat_le b 57) || (nat_le 65 b && nat_le b 90) || (nat_le 97 b && nat_le b 122) || b == 45 || b == 46 || b == 95

-- no snapshot may have this name: it is empty, too long, or has another byte
abbrev pub is_bad_name : List ℕ → Bool
is_bad_name name = length name == 0 || nat_lt SNAPSHOT_NAME_BYTES (length name) || list_any (λ b. not (is_name_byte b)) name

-- the tests of `snap take`: the name is good, no snapshot has it, and there is room for one more
abbrev pub take_tests : State → Name → Tests
take_tests s name =
    (is_bad_name name, BADNAME) ∷ (not (is_none (frozen s name)), SNAPEXISTS) ∷ (nat_le s.limits.snapshots (length s.snapshots), SNAPFULL) ∷ []

-- `snap take`: the tree without descriptors and orphans is put behind the other snapshots
abbrev pub takes : State → Name → Step
takes s name = passing s (take_tests s name) (λ reply new need.
    (reply ≡ Done) × ((t : Tree) × ForgetsOpenFiles s.tree t × (new ≡ with_snapshots (s.snapshots ++ (name, t) ∷ []) s)) × (need ≡ a_snapshot))

-- `snap delete`: the snapshot of this name is taken off the list
abbrev pub deletes : State → Name → Step
deletes s name = passing s ((is_none (frozen s name), NOSNAP) ∷ [])
    (λ reply new need. (reply ≡ Done) × (new ≡ with_snapshots (filter (λ pair. not (bytes_eq pair.0 name)) s.snapshots) s) × (need ≡ nothing))

-- one of the descriptors below a number is open
abbrev pub has_open_below : Tree → ℕ → Bool
has_open_below t zero = false
has_open_below t (suc fd) = has_open_below t fd || not (is_none (t.descriptors fd))

-- `snap restore`: the tree becomes that of the snapshot of this name, which stays; no file may be
-- open
abbrev pub restores : Room → State → Name → Step
restores room s name = passing s ((is_none (frozen s name), NOSNAP) ∷ (has_open_below s.tree OPEN_FILES, EBUSY) ∷ [])
    (λ reply new need. (reply ≡ Done) × ((pair : Name × Tree) × (frozen s name ≡ Some pair) × (new ≡ with_tree pair.1 s))
    × (need ≡ a_restore (room.orphans_of name)))

-- `in NAME`: a reading call on the snapshot's tree
abbrev pub views : State → Name → PathCall → Step
views s name c = elim (frozen s name) [
  | None ↦ says s (Refused NOSNAP)
  | Some pair ↦ passing s ((not (is_reading_call c), EROFS) ∷ [])
      (λ reply new need. calls s.limits s.session pair.1 c reply pair.1 need × (new ≡ s))
]

-- the tests of `at`: the file system keeps times, and so many nanoseconds are below a second
abbrev pub at_tests : State → ℕ → Tests
at_tests s nanoseconds = attribute_tests s.limits ++ (nat_lt MOST_NANOSECONDS nanoseconds, EINVAL) ∷ []

-- `at`: the session's calls come at this time from here on
abbrev pub sets_time : State → ℤ → ℕ → Step
sets_time s seconds nanoseconds = passing s (at_tests s nanoseconds) (λ reply new need.
    (reply ≡ Done) × (new ≡ with_session (at_time (record { seconds = seconds; nanoseconds = nanoseconds }) s.session) s) × (need ≡ nothing))

-- `as`: the objects that the session's calls make are of this owner and group from here on
abbrev pub sets_owner : State → ℕ → ℕ → Step
sets_owner s owner group = passing s (attribute_tests s.limits) (λ reply new need.
    (reply ≡ Done) × (new ≡ with_session (as_owner owner group s.session) s) × (need ≡ nothing))

-- what `statfs` tells where so many numbers are used
abbrev pub usage_of : Room → State → ℕ → Usage
usage_of room s taken = record {
  blocks = room.blocks;
  free = room.free;
  reserved = reserved_of room;
  inodes = s.limits.inodes - ROOT_NUMBER;
  taken = taken;
}

-- `statfs`: the room at the answer, and how many of the numbers that an object may have, the root's
-- among them, are used
abbrev pub tells_usage : Room → State → Step
tells_usage room s reply new need = (taken : ℕ) × Counts (IsUsed s.tree) taken × says s (tells (usage_of room s taken)) reply new need

-- the reply, the new state and the need of a command, where nothing comes in its way; `df`, `statfs`
-- and `extent` tell the room at the answer
abbrev pub WouldStep : Room → State → Command → Step
WouldStep room s (command.Path c) = on_tree s (calls s.limits s.session s.tree c)
WouldStep room s (command.Open path flags mode below) = on_tree s (opens false below s.limits (now_of s) s.tree path flags (permissions_in s mode))
WouldStep room s (command.OpenStat path flags mode below) = on_tree s (opens true below s.limits (now_of s) s.tree path flags (permissions_in s mode))
WouldStep room s (command.Close fd) = on_tree s (closes s.tree fd)
WouldStep room s (command.Read fd count) = on_tree s (reads s.tree fd count)
WouldStep room s (command.Write fd given) = on_tree s (writes s.limits (now_of s) s.tree fd given)
WouldStep room s (command.Pread fd offset count) = on_tree s (reads_from s.tree fd offset count)
WouldStep room s (command.Pwrite fd offset given) = on_tree s (writes_to s.limits (now_of s) s.tree fd offset given)
WouldStep room s (command.Lseek fd whence offset) = on_tree s (seeks s.tree fd whence offset)
WouldStep room s (command.Ftruncate fd size) = on_tree s (truncates_open s.limits (now_of s) s.tree fd size)
WouldStep room s (command.Fchmod fd mode) = on_tree s (changes_open_mode (now_of s) s.tree fd mode)
WouldStep room s (command.Fchown fd owner group) = on_tree s (changes_open_owners s.limits (now_of s) s.tree fd owner group)
WouldStep room s (command.Futimens fd time) = on_tree s (changes_open_times s.limits (now_of s) s.tree fd time)
WouldStep room s (command.Fstat fd) = on_tree s (stats_open s.tree fd)
WouldStep room s (command.Fattr fd) = on_tree s (attributes_open s.limits s.tree fd)
WouldStep room s (command.Fsync fd) = on_tree s (syncs_open s.tree fd)
WouldStep room s (command.Extent path offset) = on_tree s (tells_extent s.limits s.tree room.stored path offset)
WouldStep room s (command.At seconds nanoseconds) = sets_time s seconds nanoseconds
WouldStep room s (command.As owner group) = sets_owner s owner group
WouldStep room s command.Sync = says s Done
WouldStep room s command.Df = says s (Space room.blocks room.free room.pledged)
WouldStep room s command.Statfs = tells_usage room s
WouldStep room s (command.SnapTake name) = takes s name
WouldStep room s (command.SnapDelete name) = deletes s name
WouldStep room s (command.SnapRestore name) = restores room s name
WouldStep room s command.SnapList = says s (Snaps (map (λ pair. pair.0) s.snapshots))
WouldStep room s (command.Within name c) = views s name c
