-- What requests come to that take names away or move them. `k` is what the server knows.
use Rattle.std.specs.Prelude.{ℕ, ◌==◌, ◌&&◌, ◌||◌, not, nat_le, Bool, List, Option, Some, None, Result, Ok, Err, if◌then◌else◌}
use Rattle.file_system.specs.declared.handle.Handle.{Handle}
use Rattle.model.specs.declared.command.Command.TheVariants as command
use Rattle.model.specs.declared.errno.Errno.{Errno}
use Rattle.model.specs.declared.errno.Errno.TheVariants as errno
use Rattle.model.specs.declared.reply.Reply.TheVariants as reply
use Rattle.model.specs.declared.reply.Stat.{Stat}
use Rattle.served.specs.Commands.{lstat, moving, removing}
use Rattle.served.specs.Keeping.{gives_up, remembers}
use Rattle.served.specs.Known.{Known}
use Rattle.served.specs.Looking.{is_snapshots, no_memory}
use Rattle.served.specs.Making.{marked_changed, touched}
use Rattle.served.specs.Setting.{Told, refused}
use Rattle.served.specs.Telling.{is_file}
use Rattle.served.specs.Turns.{Turn, ◌▹◌, asks_for, either, gives, handle_now, told_done, with_path}
use Rattle.served.specs.declared.answer.Answer.TheVariants as answer
use Rattle.served.specs.declared.marks.Asker.{Asker}
use Rattle.served.specs.declared.removing.TheConstants.{NO_REPLACE}

-- an object goes with its last name
abbrev pub goes_with_name : Stat → Bool
goes_with_name stat = not (is_file stat.kind) || nat_le stat.links 1

-- the names in the directory of a number changed
abbrev pub touches : Known → Asker → ℕ → Turn Known
touches k asker parent = handle_now parent ▹ (λ directory. gives (touched k asker directory))

-- a name is taken away: what is known behind it, and what is done where that is refused
abbrev pub takes_away : Known → (Errno → Turn Told) → Asker → ℕ → List ℕ → Bool → Turn Told
takes_away behind refusal asker parent path is_directory =
    asks_for told_done (command.Path (removing path is_directory)) refusal (λ d.
    touches behind asker parent ▹ (λ known. gives (answer.Done, known)))

-- what was to go keeps its name
abbrev pub stays : Known → Handle → Option ℕ → Errno → Turn Told
stays k handle held e = gives_up k handle held ▹ (λ known. refused known e)

-- an object is to go, to which the path leads: it is remembered first, and then this is done, with what is
-- known by then, and what is done where it stays
abbrev pub goes : Known → Asker → Handle → List ℕ → Stat → (Known → (Errno → Turn Told) → Turn Told) → Turn Told
goes k asker handle path stat does = remembers k asker handle path stat ▹ (λ found. elim found.0 [
  | Ok held ↦ does found.1 (stays found.1 handle held)
  | Err e ↦ refused found.1 e
])

-- an object goes by that
abbrev pub remove_last : Known → Asker → ℕ → List ℕ → Bool → Handle → Stat → Turn Told
remove_last k asker parent path is_directory handle stat = goes k asker handle path stat (λ known stay.
    takes_away known stay asker parent path is_directory)

-- an object has other names
abbrev pub remove_one : Known → Asker → ℕ → List ℕ → Bool → Handle → Turn Told
remove_one k asker parent path is_directory handle =
    takes_away (marked_changed k asker handle) (refused k) asker parent path is_directory

-- an object was looked at whose name is taken away
abbrev pub remove_seen : Known → Asker → ℕ → List ℕ → Bool → Stat → Turn Told
remove_seen k asker parent path is_directory stat = handle_now stat.number ▹ (λ handle.
    either (goes_with_name stat)
    (remove_last k asker parent path is_directory handle stat)
    (remove_one k asker parent path is_directory handle))

-- UNLINK and RMDIR; the folder of snapshots stays
abbrev pub remove_named : Known → Asker → ℕ → List ℕ → Bool → Turn Told
remove_named k asker parent name is_directory = with_path (no_memory, k) parent name (λ path.
    asks_for reply.Stat (lstat path) (refused k) (λ stat. remove_seen k asker parent path is_directory stat))

abbrev pub remove : Known → Asker → ℕ → List ℕ → Bool → Turn Told
remove k asker parent name is_directory =
    either (is_snapshots parent name) (refused k errno.EBUSY) (remove_named k asker parent name is_directory)

-- nothing is there where a name is missing
abbrev pub missing_or : Errno → Result (Option Stat) Errno
missing_or errno.ENOENT = Ok None
missing_or e = Err e

-- an object goes where another one gets its name, if it goes with a name
abbrev pub gone_by : Stat → Stat → Option Stat
gone_by moved stat = if not (stat.number == moved.number) && goes_with_name stat then Some stat else None

-- what has the new name of something, and goes by that
abbrev pub replaced : Stat → List ℕ → Turn (Result (Option Stat) Errno)
replaced moved new_path =
    asks_for reply.Stat (lstat new_path) (λ e. gives (missing_or e)) (λ stat. gives (Ok (gone_by moved stat)))

-- what moved is marked, and both directories
abbrev pub marks_moved : Known → Asker → Stat → ℕ → ℕ → Turn Known
marks_moved k asker moved parent new_parent = handle_now moved.number ▹ (λ handle.
    touches (marked_changed k asker handle) asker parent ▹ (λ known. touches known asker new_parent))

-- a name is moved: what is known before the marks, and what is done where it is refused
abbrev pub moves_name : Known → (Errno → Turn Told) → Asker → Stat → ℕ → ℕ → ℕ → List ℕ → List ℕ → Turn Told
moves_name k refusal asker moved parent new_parent flags path new_path =
    asks_for told_done (command.Path (moving flags path new_path)) refusal (λ d.
    marks_moved k asker moved parent new_parent ▹ (λ known. gives (answer.Done, known)))

-- where nothing goes by that, and where something does
abbrev pub moves : Known → Asker → Stat → ℕ → ℕ → ℕ → List ℕ → List ℕ → Turn Told
moves k asker moved parent new_parent flags path new_path = moves_name k (refused k) asker moved parent new_parent flags path new_path

abbrev pub moves_over : Known → Asker → Stat → Stat → ℕ → ℕ → ℕ → List ℕ → List ℕ → Turn Told
moves_over k asker over moved parent new_parent flags path new_path = handle_now over.number ▹ (λ handle.
    goes k asker handle new_path over (λ known stay.
    moves_name known stay asker moved parent new_parent flags path new_path))

-- an object was looked at that gets another name
abbrev pub rename_seen : Known → Asker → Stat → ℕ → ℕ → ℕ → List ℕ → List ℕ → Turn Told
rename_seen k asker moved parent new_parent flags path new_path = replaced moved new_path ▹ (λ found. elim found [
  | Err e ↦ refused k e
  | Ok over ↦ elim over [
    | None ↦ moves k asker moved parent new_parent flags path new_path
    | Some stat ↦ moves_over k asker stat moved parent new_parent flags path new_path
  ]
])

-- what has a path gets another name
abbrev pub rename_from : Known → Asker → ℕ → ℕ → List ℕ → ℕ → List ℕ → Turn Told
rename_from k asker parent new_parent new_name flags path = with_path (no_memory, k) new_parent new_name (λ new_path.
    asks_for reply.Stat (lstat path) (refused k) (λ moved.
    rename_seen k asker moved parent new_parent flags path new_path))

-- RENAME and RENAME2; the folder of snapshots stays
abbrev pub rename_named : Known → Asker → ℕ → List ℕ → ℕ → List ℕ → ℕ → Turn Told
rename_named k asker parent name new_parent new_name flags =
    with_path (no_memory, k) parent name (λ path. rename_from k asker parent new_parent new_name flags path)

abbrev pub rename : Known → Asker → ℕ → List ℕ → ℕ → List ℕ → ℕ → Turn Told
rename k asker parent name new_parent new_name flags =
    either (nat_le flags NO_REPLACE)
    (either (is_snapshots parent name || is_snapshots new_parent new_name)
    (refused k errno.EBUSY)
    (rename_named k asker parent name new_parent new_name flags))
    (refused k errno.EINVAL)
