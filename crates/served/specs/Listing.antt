-- What requests come to that list directories, in parts. `k` is what the server knows.
use Rattle.std.specs.Prelude.{ℕ, ℤ, pos, ◌≡◌, ◌+◌, ◌/◌, ◌^◌, ◌==◌, ◌&&◌, ◌⊎◌, not, max, min, nat_le, nat_lt, if◌then◌else◌, Bool, true, false, List, [], ◌∷◌, ◌++◌, length, take, Result, Ok, Err}
use Rattle.file_system.specs.declared.handle.Handle.{Handle}
use Rattle.fuse.specs.Directory.{ListedValue, listed_plus_text, listed_text}
use Rattle.fuse.specs.declared.attributes.Entry.{Entry}
use Rattle.fuse.specs.declared.directory.ListedKind.{ListedKind}
use Rattle.fuse.specs.declared.directory.ListedKind.TheVariants as listed_as
use Rattle.fuse.specs.declared.directory.TheConstants.{LISTED_NAME_BYTES}
use Rattle.fuse.specs.declared.time.Time.{Time}
use Rattle.model.specs.declared.command.Command.{Command}
use Rattle.model.specs.declared.command.Command.TheVariants as command
use Rattle.model.specs.declared.command.PathCall.TheVariants as call
use Rattle.model.specs.declared.entries.Entry.{Entry as Named}
use Rattle.model.specs.declared.errno.Errno.{Errno}
use Rattle.model.specs.declared.errno.Errno.TheVariants as errno
use Rattle.model.specs.declared.limits.TheConstants.{ENTRIES_TOLD, ROOT_NUMBER}
use Rattle.model.specs.declared.reply.FileType.{FileType}
use Rattle.model.specs.declared.reply.FileType.TheVariants.{Dir, File, Link}
use Rattle.model.specs.declared.reply.Reply.TheVariants as reply
use Rattle.model.specs.declared.reply.Stat.{Stat}
use Rattle.served.specs.Known.{Known, Seen, marks_at, seen_of}
use Rattle.served.specs.Looking.{is_snapshots, no_memory, stored_parts}
use Rattle.served.specs.Nodes.{node_of, node_within}
use Rattle.served.specs.Telling.{attributes_of, entry_of, parts_of_size}
use Rattle.served.specs.Turns.{Turn, ◌▹◌, asks_for, either, gives, gives_some, handle_now, with_path}
use Rattle.served.specs.declared.answer.Answer.{Answer}
use Rattle.served.specs.declared.answer.Answer.TheVariants as answer
use Rattle.served.specs.declared.listing.Part.{Part}
use Rattle.served.specs.declared.listing.TheConstants.{BEHIND_PARENT, BEHIND_SELF}
use Rattle.served.specs.declared.listing.Tree.{Tree}
use Rattle.served.specs.declared.listing.Tree.TheVariants as tree
use Rattle.served.specs.declared.marks.Marks.{Marks}
use Rattle.served.specs.declared.node.TheConstants.{SNAPSHOTS_NODE}

-- Whose directory is listed: the running tree's, or a snapshot's, in which everything has these marks.
pub data Whose : Type 0 where
  running : Whose
  within : Seen → Marks → Whose

abbrev pub whose_of : Tree → Whose
whose_of tree.Running = running
whose_of (tree.Within snapshot marks) = within (seen_of snapshot.now) marks

-- the command that tells so many names in a directory behind a cookie
abbrev pub names_in : Whose → List ℕ → ℤ → ℕ → Command
names_in running path after count = command.Path (call.Entries path after count)
names_in (within seen marks) path after count = command.Within seen.name (call.Entries path after count)

-- so many that they fill a part
abbrev pub names_asked : Part → ℕ
names_asked part = max (min (part.bytes / (if part.plus then 160 else 32)) ENTRIES_TOLD) 1

-- the entry of a name of which a listing tells nothing
abbrev pub never : Time
never = record { seconds = 0; nanoseconds = 0 }

abbrev pub untold : Entry
untold = entry_of 0 0 (record {
  inode = 0;
  size = 0;
  blocks = 0;
  atime = never;
  mtime = never;
  ctime = never;
  mode = 0;
  links = 0;
  uid = 0;
  gid = 0;
  device = 0;
  block_size = 0;
})

-- a name is spelled behind the entry that it leads to, where the part is to tell that
abbrev pub spelled : Part → Entry → ListedValue → List ℕ
spelled part entry name = if part.plus then listed_plus_text entry name else listed_text name

-- it has room in the part behind others, unless it is too long for any
abbrev pub has_room : Part → List ℕ → Entry → ListedValue → Bool
has_room part had entry name =
    nat_le (length name.name) LISTED_NAME_BYTES && nat_le (length had + length (spelled part entry name)) part.bytes

-- the first of the names that have room behind others, and whether all have
unfoldable pub listed : Part → List ListedValue → List ℕ → List ℕ × Bool
listed part [] had = (had, true)
listed part (name ∷ names) had =
    if has_room part had untold name then listed part names (had ++ spelled part untold name) else (had, false)

-- a directory has a name at a place, which is told where the part begins before that
abbrev pub directory_at : Part → ℕ → ℕ → List ℕ → List ListedValue
directory_at part inode place name =
    if nat_le place part.behind then []
    else (record { inode = inode; offset = place; kind = listed_as.Directory; name = name }) ∷ []

-- `.` and `..`
abbrev pub dots : Part → ℕ → List ListedValue
dots part inode =
    directory_at part inode BEHIND_SELF (46 ∷ []) ++ directory_at part inode BEHIND_PARENT (46 ∷ 46 ∷ [])

-- the snapshots, each at the place of its id and 3
abbrev pub snapshots_in : Part → List Seen → List ListedValue
snapshots_in part [] = []
snapshots_in part (seen ∷ snapshots) =
    directory_at part (node_within seen.id ROOT_NUMBER) (seen.id + BEHIND_PARENT + 1) seen.name ++ snapshots_in part snapshots

-- a part of a folder of snapshots that programs see by a number, unless memory lacks for it
abbrev pub TellsSnapshots : Known → ℕ → Part → Answer → Type 0
TellsSnapshots k inode part told =
    (told ≡ answer.Bytes (listed part (dots part inode ++ snapshots_in part k.snapshots) []).0) ⊎ (told ≡ no_memory)

-- READDIR and READDIRPLUS in the folder of snapshots
abbrev pub list_snapshots : Known → Part → Turn Answer
list_snapshots k part = gives_some (TellsSnapshots k SNAPSHOTS_NODE part)

-- a name's kind
abbrev pub listed_kind : FileType → ListedKind
listed_kind File = listed_as.File
listed_kind Dir = listed_as.Directory
listed_kind Link = listed_as.SymbolicLink

-- the number by which programs see what has a number
abbrev pub inode_in : Whose → ℕ → ℕ
inode_in running number = number
inode_in (within seen marks) number = node_within seen.id number

-- a name as it is told, with its cookie
abbrev pub name_in : Whose → Named → ListedValue
name_in whose name = record {
  inode = inode_in whose name.stat.number;
  offset = name.cookie;
  kind = listed_kind name.stat.kind;
  name = name.name;
}

-- what something leads to in the running tree, and in a snapshot
abbrev pub entry_at : Known → Stat → ℕ → Handle → Entry
entry_at k stat parts handle =
    entry_of (node_of handle) handle.generation (attributes_of stat.number stat parts (marks_at k handle))

abbrev pub entry_within : ℕ → Marks → Stat → Entry
entry_within id marks stat =
    let node = node_within id stat.number in
    entry_of node 0 (attributes_of node stat (parts_of_size stat.size) marks)

-- what a name leads to
abbrev pub leads_to : Known → Whose → Stat → Turn (Result Entry Errno)
leads_to k running stat = with_path (Err errno.ENOMEM) stat.number [] (λ path.
    stored_parts path stat ▹ (λ parts. handle_now stat.number ▹ (λ handle. gives (Ok (entry_at k stat parts handle)))))
leads_to k (within seen marks) stat = gives (Ok (entry_within seen.id marks stat))

-- an object of the running tree that has the name of the folder of snapshots is hidden by that
abbrev pub is_hidden : Whose → ℕ → List ℕ → Bool
is_hidden running number name = is_snapshots number name
is_hidden (within seen marks) number name = false

-- the same where the part is to tell it of the directory of a number
unfoldable pub told_of : Known → Whose → ℕ → Part → Named → Turn (Result Entry Errno)
told_of k whose number part name =
    either (part.plus && not (is_hidden whose number name.name)) (leads_to k whose name.stat) (gives (Ok untold))

-- whether the next name has the same cookie
abbrev pub shares_cookie : Named → List Named → Bool
shares_cookie name [] = false
shares_cookie name (next ∷ names) = next.cookie == name.cookie

-- a part ends behind the last cookie all of whose names have room; one in which none has is too small
abbrev pub ends : List ℕ → Answer
ends [] = answer.Refused errno.EINVAL
ends whole = answer.Bytes whole

-- a name is told behind others where it has room, and `rest` goes on behind it, unless memory lacks;
-- so many bytes of the others end with a cookie
abbrev pub tells_name : Part → ℕ → List ℕ → ListedValue → (List ℕ → Turn Answer) → Entry → Turn Answer
tells_name part whole had name rest entry = gives_some (λ (kept : Bool). Unit {0}) ▹ (λ kept.
    either kept
    (either (has_room part had entry name) (rest (had ++ spelled part entry name)) (gives (ends (take whole had))))
    (gives no_memory))

-- names are told behind others
unfoldable pub tells : Known → Whose → ℕ → Part → List Named → ℕ → List ℕ → Turn Answer
tells k whose number part [] whole had = gives (answer.Bytes had)
tells k whose number part (name ∷ names) whole had = told_of k whose number part name ▹ (λ found. elim found [
  | Err e ↦ gives (answer.Refused e)
  | Ok entry ↦ tells_name part whole had (name_in whose name)
      (λ now. tells k whose number part names (if shares_cookie name names then whole else length now) now) entry
])

-- the names behind the part's beginning, in the directory to which a path leads
abbrev pub lists_along : Known → Whose → ℕ → Part → List ℕ → List ℕ → Turn Answer
lists_along k whose number part had path =
    asks_for reply.Entries (names_in whose path (pos part.behind) (names_asked part)) (λ e. gives (answer.Refused e))
    (λ names. tells k whose number part names (length had) had)

-- the same in that of a number, behind `.` and `..`
unfoldable pub lists : Known → Whose → ℕ → Part → List ℕ → Turn Answer
lists k whose number part had =
    either (nat_lt part.behind (2 ^ 63)) (with_path no_memory number [] (lists_along k whose number part had)) (gives (answer.Bytes had))

-- READDIR and READDIRPLUS: a part of the names in the directory of a number
abbrev pub list : Known → Whose → ℕ → Part → Turn Answer
list k whose number part =
    let begun = listed part (dots part (inode_in whose number)) [] in
    gives_some (λ (kept : Bool). Unit {0}) ▹ (λ kept.
    either kept (either begun.1 (lists k whose number part begun.0) (gives (answer.Bytes begun.0))) (gives no_memory))
