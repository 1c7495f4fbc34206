-- What requests come to in the folder of snapshots, and in what stands there. `k` is what the server knows.
use Rattle.std.specs.Prelude.{ℕ, ◌≡◌, ◌==◌, bit_and, List, [], ◌∷◌, ◌++◌, Option, Some, None, is_some, Result, Ok, Err, if◌then◌else◌}
use Rattle.fuse.specs.declared.attributes.Attributes.{Attributes}
use Rattle.fuse.specs.declared.open_reply.TheConstants.{FOPEN_KEEP_CACHE}
use Rattle.model.specs.declared.command.Command.TheVariants as command
use Rattle.model.specs.declared.command.PathCall.TheVariants as call
use Rattle.model.specs.declared.errno.Errno.{Errno}
use Rattle.model.specs.declared.errno.Errno.TheVariants as errno
use Rattle.model.specs.declared.limits.TheConstants.{ROOT_NUMBER}
use Rattle.model.specs.declared.reply.FileType.TheVariants.{Dir}
use Rattle.model.specs.declared.reply.Reply.TheVariants as reply
use Rattle.model.specs.declared.reply.Stat.{Stat}
use Rattle.served.specs.Known.{FindsName, Known, Seen, with_snapshot, without_snapshot}
use Rattle.served.specs.Looking.{missing, no_memory}
use Rattle.served.specs.Nodes.{node_within}
use Rattle.served.specs.Setting.{Told, or_no_memory, refused}
use Rattle.served.specs.Telling.{attributes_of, entry_of, parts_of_size}
use Rattle.served.specs.Turns.{Turn, ◌▹◌, asks_for, either, gives, gives_some, told_done, with_path}
use Rattle.served.specs.declared.answer.Answer.{Answer}
use Rattle.served.specs.declared.answer.Answer.TheVariants as answer
use Rattle.served.specs.declared.node.TheConstants.{SNAPSHOTS_NODE}
use Rattle.served.specs.declared.snapshots.TheConstants.{ACCESS_BITS}

-- there are snapshots more of these names, in their order
abbrev pub with_names : List (List ℕ) → Known → Known
with_names [] k = k
with_names (name ∷ names) k = with_names names (with_snapshot name k)

-- whether the snapshots were learnt, and what is known then
abbrev pub Learnt : Type 0
Learnt = Result (Unit {0}) Errno × Known

-- the names are known, or a beginning of them where there is no memory for all
abbrev pub AreLearnt : Known → List (List ℕ) → Learnt → Type 0
AreLearnt k names (Ok done, known) = known ≡ with_names names k
AreLearnt k names (Err e, known) = (e ≡ errno.ENOMEM)
    × ((before : List (List ℕ)) × (rest : List (List ℕ)) × (names ≡ before ++ rest) × (known ≡ with_names before k))

-- the snapshots are listed, and known then
unfoldable pub learns : Known → Turn Learnt
learns k = asks_for reply.Snaps command.SnapList (λ e. gives (Err e, k)) (λ names. gives_some (AreLearnt k names))

-- the folder of snapshots is told of as a directory of mode 755, as old as the mount
abbrev pub snapshots_attributes : Known → Attributes
snapshots_attributes k =
    attributes_of SNAPSHOTS_NODE (record { number = 2; kind = Dir; mode = 0o755; links = 2; size = 0 }) 0 k.first

abbrev pub snapshots_entry : Known → Answer
snapshots_entry k = answer.Entry (entry_of SNAPSHOTS_NODE 0 (snapshots_attributes k))

-- what is told of an object in the snapshot with an id
abbrev pub attributes_within : Known → ℕ → Stat → Attributes
attributes_within k id stat = attributes_of (node_within id stat.number) stat (parts_of_size stat.size) k.first

abbrev pub entry_within : Known → ℕ → Stat → Answer
entry_within k id stat = answer.Entry (entry_of (node_within id stat.number) 0 (attributes_within k id stat))

-- LOOKUP in a directory of a snapshot
unfoldable pub look_up_within : Known → Seen → ℕ → List ℕ → Turn Answer
look_up_within k seen parent name = with_path no_memory parent name (λ path.
    asks_for reply.Stat (command.Within seen.name (call.Lstat path)) (λ e. gives (missing e)) (λ stat. gives (entry_within k seen.id stat)))

-- LOOKUP of a snapshot: its root
unfoldable pub look_up_found : Known → Option Seen → Turn Answer
look_up_found k (Some seen) = look_up_within k seen ROOT_NUMBER []
look_up_found k None = gives answer.NoEntry

unfoldable pub look_up_snapshot : Known → List ℕ → Turn Answer
look_up_snapshot k name = gives_some (FindsName k name) ▹ look_up_found k

-- GETATTR in a snapshot
unfoldable pub tell_attributes_within : Known → Seen → ℕ → Turn Answer
tell_attributes_within k seen number = with_path no_memory number [] (λ path.
    asks_for reply.Stat (command.Within seen.name (call.Lstat path)) (λ e. gives (answer.Refused e)) (λ stat. gives (answer.Attributes (attributes_within k seen.id stat))))

-- READLINK in a snapshot
unfoldable pub read_link_within : Seen → ℕ → Turn Answer
read_link_within seen number = with_path no_memory number [] (λ path.
    asks_for reply.Text (command.Within seen.name (call.Readlink path)) (λ e. gives (answer.Refused e)) (λ text. gives (answer.Bytes text)))

-- a snapshot is taken that is noted already, and told
unfoldable pub take_noted : Known → List ℕ → Turn Told
take_noted k name = asks_for told_done (command.SnapTake name) (refused (without_snapshot name k))
    (λ d. look_up_snapshot k name ▹ (λ told. gives (told, k)))

-- MKDIR in the folder of snapshots takes one, where none of its name is known
unfoldable pub take_snapshot : Known → List ℕ → Turn Told
take_snapshot k name = gives_some (FindsName k name) ▹ (λ found.
    either (is_some found) (refused k errno.EEXIST) (or_no_memory k (take_noted (with_snapshot name k) name)))

-- RMDIR there deletes one; a later one of its name has another id, and so other nodes
unfoldable pub delete : Known → List ℕ → Turn Told
delete k name = asks_for told_done (command.SnapDelete name) (refused k) (λ d. gives (answer.Done, without_snapshot name k))

-- OPEN in a snapshot, for reading alone
abbrev pub open_within : ℕ → Answer
open_within flags =
    if bit_and flags ACCESS_BITS == 0 then answer.Opened (record { handle = 0; flags = FOPEN_KEEP_CACHE })
    else answer.Refused errno.EROFS
