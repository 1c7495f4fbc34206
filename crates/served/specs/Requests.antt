-- The table of requests: which answer each gets, from what the server knows, and what it knows then.
use Rattle.std.specs.Prelude.{ℕ, ◌^◌, nat_lt, Bool, true, false, List, [], Option, Some, None, if◌then◌else◌}
use Rattle.file_system.specs.declared.handle.Handle.{Handle}
use Rattle.fuse.specs.Operation as asked
use Rattle.fuse.specs.Operation.{OperationValue}
use Rattle.model.specs.declared.errno.Errno.TheVariants as errno
use Rattle.served.specs.Agreeing.{agree}
use Rattle.served.specs.Files.{read_open, read_within, reads, release, write}
use Rattle.served.specs.Finding.{finds}
use Rattle.served.specs.Keeping.{forgets, forgets_all}
use Rattle.served.specs.Known.{FindsId, Known, Seen}
use Rattle.served.specs.Listing.{list, list_snapshots, running, within}
use Rattle.served.specs.Looking.{ReadsRemoved, is_snapshots, look_up, read_link, seek, tell_attributes, tell_removed, tell_space}
use Rattle.served.specs.Making.{create, link, make_directory, make_link, make_node, open_file}
use Rattle.served.specs.Removing.{remove, rename}
use Rattle.served.specs.Setting.{Told, looks, refused, set_attributes, set_removed, told}
use Rattle.served.specs.Snapshots.{delete, look_up_snapshot, look_up_within, open_within, read_link_within, snapshots_attributes, snapshots_entry, take_snapshot, tell_attributes_within}
use Rattle.served.specs.Turns.{Turn, ◌▹◌, either, gives, gives_some}
use Rattle.served.specs.declared.answer.Answer.{Answer}
use Rattle.served.specs.declared.answer.Answer.TheVariants as answer
use Rattle.served.specs.declared.finding.Found.{Found}
use Rattle.served.specs.declared.finding.Found.TheVariants as found
use Rattle.served.specs.declared.listing.Part.{Part}
use Rattle.served.specs.declared.marks.Asker.{Asker}
use Rattle.served.specs.declared.numbers.TheConstants.{MOST_PARTS}

-- the descriptor that a handle is; one that can't be is that of no open file
abbrev pub descriptor : ℕ → ℕ
descriptor handle = if nat_lt handle (2 ^ 32) then handle else 4294967295

abbrev pub part : ℕ → ℕ → Bool → Part
part offset size plus = record { behind = offset; bytes = size; plus = plus }

-- a name is moved into the directory of a node, or a file gets one more there, of the running tree alone
unfoldable pub among_running : Known → Found → (Handle → Turn Told) → Turn Told
among_running k (found.Running handle) done = done handle
among_running k found.Nothing done = refused k errno.ESTALE
among_running k _ done = refused k errno.EROFS

unfoldable pub renames : Known → Asker → ℕ → List ℕ → ℕ → List ℕ → ℕ → Turn Told
renames k by parent name new_parent new_name flags =
    finds new_parent ▹ (λ to. among_running k to (λ new. rename k by parent name new.number new_name flags))

unfoldable pub links : Known → Asker → ℕ → ℕ → List ℕ → Turn Told
links k by file parent name = finds file ▹ (λ of. among_running k of (λ old. link k by old parent name))

-- in the root the folder of snapshots has a name too
unfoldable pub look_up_running : Known → ℕ → List ℕ → Turn Answer
look_up_running k parent name =
    either (is_snapshots parent name) (gives (snapshots_entry k)) (look_up k parent name)

-- what is asked of an object of the running tree, which the kernel knows by a node
unfoldable pub of_running : Known → Asker → ℕ → Handle → OperationValue → Turn Told
of_running k by node h (asked.lookup name) = looks k (look_up_running k h.number name)
of_running k by node h (asked.get_attributes handle) = looks k (tell_attributes k node h)
of_running k by node h (asked.set_attributes changes) = set_attributes k by node h changes
of_running k by node h asked.read_link = looks k (read_link k node h.number)
of_running k by node h (asked.symbolic_link name text) = make_link k by h.number name text
of_running k by node h (asked.make_node name mode device umask) = make_node k by h.number name mode
of_running k by node h (asked.make_directory name mode umask) = make_directory k by h.number name mode
of_running k by node h (asked.unlink name) = remove k by h.number name false
of_running k by node h (asked.remove_directory name) = remove k by h.number name true
of_running k by node h (asked.rename name new_parent new_name flags) = renames k by h.number name new_parent new_name flags
of_running k by node h (asked.link name file) = links k by file h.number name
of_running k by node h (asked.open_file flags open_flags) = open_file k node h.number
of_running k by node h (asked.create name mode umask flags open_flags) = create k by h.number name mode flags
of_running k by node h (asked.read handle offset size read_flags flags) =
    looks k (reads (read_open (descriptor handle)) offset size MOST_PARTS [])
of_running k by node h (asked.write handle offset bytes write_flags flags) = write k by node h (descriptor handle) offset bytes
of_running k by node h (asked.release handle flags release_flags) = release k node (descriptor handle)
of_running k by node h (asked.read_directory handle offset size) = looks k (list k running h.number (part offset size false))
of_running k by node h (asked.read_directory_plus handle offset size) = looks k (list k running h.number (part offset size true))
of_running k by node h (asked.seek handle offset whence) = looks k (seek k node h.number offset whence)
of_running k by node h _ = told k answer.NotServed

-- what is asked of the folder of snapshots
unfoldable pub of_snapshots : Known → OperationValue → Turn Told
of_snapshots k (asked.lookup name) = looks k (look_up_snapshot k name)
of_snapshots k (asked.get_attributes handle) = told k (answer.Attributes (snapshots_attributes k))
of_snapshots k (asked.make_directory name mode umask) = take_snapshot k name
of_snapshots k (asked.remove_directory name) = delete k name
of_snapshots k (asked.read_directory handle offset size) = looks k (list_snapshots k (part offset size false))
of_snapshots k (asked.read_directory_plus handle offset size) = looks k (list_snapshots k (part offset size true))
of_snapshots k _ = refused k errno.EROFS

-- what is asked of an object in a snapshot that is there
unfoldable pub of_seen : Known → Seen → ℕ → OperationValue → Turn Answer
of_seen k seen n (asked.lookup name) = look_up_within k seen n name
of_seen k seen n (asked.get_attributes handle) = tell_attributes_within k seen n
of_seen k seen n asked.read_link = read_link_within seen n
of_seen k seen n (asked.open_file flags open_flags) = gives (open_within flags)
of_seen k seen n (asked.read handle offset size read_flags flags) = read_within seen.name n offset size
of_seen k seen n (asked.release handle flags release_flags) = gives answer.Done
of_seen k seen n (asked.read_directory handle offset size) = list k (within seen k.first) n (part offset size false)
of_seen k seen n (asked.read_directory_plus handle offset size) = list k (within seen k.first) n (part offset size true)
of_seen k seen n (asked.seek handle offset whence) = gives (answer.Refused errno.EINVAL)
of_seen k seen n _ = gives (answer.Refused errno.EROFS)

-- the same, if the snapshot is there
unfoldable pub if_seen : Known → ℕ → OperationValue → Option Seen → Turn Answer
if_seen k n operation (Some seen) = of_seen k seen n operation
if_seen k n operation None = gives (answer.Refused errno.ESTALE)

unfoldable pub of_within : Known → ℕ → ℕ → OperationValue → Turn Answer
of_within k id n operation = gives_some (FindsId k id) ▹ if_seen k n operation

-- what is asked of something that isn't there any more
unfoldable pub of_removed : Known → Asker → ℕ → OperationValue → Turn Told
of_removed k by node (asked.get_attributes handle) = looks k (tell_removed k node)
of_removed k by node (asked.set_attributes changes) = set_removed k by node changes
of_removed k by node asked.read_link = looks k (gives_some (ReadsRemoved k node))
of_removed k by node (asked.release handle flags release_flags) = release k node (descriptor handle)
of_removed k by node _ = refused k errno.ESTALE

unfoldable pub of_found : Known → Asker → ℕ → OperationValue → Found → Turn Told
of_found k by node operation (found.Running handle) = of_running k by node handle operation
of_found k by node operation found.Snapshots = of_snapshots k operation
of_found k by node operation (found.Within id n) = looks k (of_within k id n operation)
of_found k by node operation found.Nothing = of_removed k by node operation

-- what is asked with the number of a node: some requests are of no node, or of any
unfoldable pub answers : Known → Asker → ℕ → OperationValue → Turn Told
answers k by node (asked.init major minor max_readahead flags) = told k (agree major minor max_readahead flags)
answers k by node asked.destroy = told k answer.Done
answers k by node (asked.interrupt unique) = told k answer.Silent
answers k by node asked.retrieved = told k answer.Silent
answers k by node (asked.forget lookups) = forgets k node ▹ (λ known. gives (answer.Silent, known))
answers k by node (asked.batch_forget forgets) = forgets_all k forgets ▹ (λ known. gives (answer.Silent, known))
answers k by node asked.stat_file_system = looks k tell_space
answers k by node (asked.open_directory flags open_flags) = told k (answer.Opened (record { handle = 0; flags = 0 }))
answers k by node (asked.release_directory handle) = told k answer.Done
answers k by node (asked.sync handle data_only) = told k answer.NotServed
answers k by node (asked.sync_directory handle data_only) = told k answer.NotServed
answers k by node (asked.flush handle) = told k answer.NotServed
answers k by node (asked.access mask) = told k answer.NotServed
answers k by node (asked.other opcode) = told k answer.NotServed
answers k by node operation = finds node ▹ of_found k by node operation
