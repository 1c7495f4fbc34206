-- What requests come to that set attributes. `k` is what the server knows.
use Rattle.std.specs.Prelude.{ℕ, ℤ, pos, ◌%◌, ◌^◌, ◌||◌, nat_lt, List, [], Option, Some, None, option_map, Result, Ok, Err, is_some, if◌then◌else◌, unwrap_or}
use Rattle.file_system.specs.declared.handle.Handle.{Handle}
use Rattle.fuse.specs.declared.attribute_changes.AttributeChanges.{AttributeChanges}
use Rattle.model.specs.declared.command.Command.TheVariants as command
use Rattle.model.specs.declared.command.PathCall.TheVariants as call
use Rattle.model.specs.declared.command.Settings.{Settings}
use Rattle.model.specs.declared.errno.Errno.{Errno}
use Rattle.model.specs.declared.errno.Errno.TheVariants as errno
use Rattle.served.specs.Known.{Known, marks_at, with_marks, with_removed}
use Rattle.served.specs.Looking.{is_stale, no_memory, tell_attributes, tell_removed}
use Rattle.served.specs.Marks.{marks_set}
use Rattle.served.specs.Turns.{Turn, ◌▹◌, asks, asks_for, either, gives, if_memory, told_done, with_path}
use Rattle.served.specs.declared.answer.Answer.{Answer}
use Rattle.served.specs.declared.answer.Answer.TheVariants as answer
use Rattle.served.specs.declared.marks.Asker.{Asker}
use Rattle.served.specs.declared.memory.Removed.{Removed}

-- what a request is answered, and what the server knows then
abbrev pub Told : Type 0
Told = Answer × Known

-- an answer that changes nothing that the server knows
abbrev pub told : Known → Answer → Turn Told
told k a = gives (a, k)

abbrev pub looks : Known → Turn Answer → Turn Told
looks k turn = turn ▹ told k

-- mode and size, as far as they are to be set; a size that no file has is none
abbrev pub settings_of : AttributeChanges → Result Settings Errno
settings_of changes =
    if nat_lt (unwrap_or changes.size 0) (2 ^ 63)
    then Ok (record { mode = option_map (λ m. m % 4096) changes.mode; size = option_map pos changes.size })
    else Err errno.EFBIG

-- a refusal changes nothing that the server knows
abbrev pub refused : Known → Errno → Turn Told
refused k e = gives (answer.Refused e, k)

-- there is memory for a change of what the server knows, or nothing is done
abbrev pub or_no_memory : Known → Turn Told → Turn Told
or_no_memory k done = if_memory (gives (no_memory, k)) done

-- a removed object that has this mode now, if it is set, and these marks
abbrev pub removed_set : Removed → AttributeChanges → Settings → Asker → Removed
removed_set removed changes settings asker = record removed {
  stat = record removed.stat { mode = unwrap_or settings.mode removed.stat.mode };
  marks = marks_set changes asker.now removed.marks;
}

-- it is kept so, and told
abbrev pub keep_removed : Known → ℕ → Removed → Turn Told
keep_removed k node removed =
    tell_removed (with_removed node removed k) node ▹ (λ told. gives (told, with_removed node removed k))

-- a size is set by a descriptor, if one is open
abbrev pub cut_open : Option ℕ → ℤ → Turn (Result (Unit {0}) Errno)
cut_open None size = gives (Err errno.ESTALE)
cut_open (Some fd) size = asks told_done (command.Ftruncate fd size)

-- the size of a removed object is set, where one is to be set
abbrev pub cut_removed : Option ℕ → Option ℤ → Turn (Result (Unit {0}) Errno)
cut_removed held None = gives (Ok tt)
cut_removed held (Some size) = cut_open held size

-- a removed object is set
abbrev pub set_gone : Known → Asker → ℕ → AttributeChanges → Settings → Option Removed → Turn Told
set_gone k asker node changes settings None = refused k errno.ESTALE
set_gone k asker node changes settings (Some removed) = cut_removed removed.held settings.size ▹ (λ done. elim done [
  | Ok d ↦ keep_removed k node (removed_set removed changes settings asker)
  | Err e ↦ refused k e
])

-- SETATTR of what has no name any more, if the kernel still knows it
abbrev pub set_removed_by : Known → Asker → ℕ → AttributeChanges → Result Settings Errno → Turn Told
set_removed_by k asker node changes (Err e) = refused k e
set_removed_by k asker node changes (Ok settings) = set_gone k asker node changes settings (k.removed node)

abbrev pub set_removed : Known → Asker → ℕ → AttributeChanges → Turn Told
set_removed k asker node changes = set_removed_by k asker node changes (settings_of changes)

-- the marks are set, and the attributes are told
abbrev pub mark_set : Known → Asker → ℕ → Handle → AttributeChanges → Turn Told
mark_set k asker node handle changes =
    let known = with_marks handle (marks_set changes asker.now (marks_at k handle)) k in
    tell_attributes known node handle ▹ (λ told. gives (told, known))

-- what has no name any more is set apart
abbrev pub set_marks : Known → Asker → ℕ → Handle → AttributeChanges → Turn Told
set_marks k asker node handle changes =
    either (is_some (k.removed node)) (set_removed k asker node changes) (mark_set k asker node handle changes)

-- mode and size are set by one command, where one of them is to be set; the path leads to the object
abbrev pub set_by_path : Known → Asker → ℕ → Handle → AttributeChanges → Settings → List ℕ → Turn Told
set_by_path k asker node handle changes settings path =
    either (is_some settings.mode || is_some settings.size)
    (asks_for told_done (command.Path (call.Set path settings))
    (λ e. either (is_stale e) (set_removed k asker node changes) (refused k e))
    (λ d. mark_set k asker node handle changes))
    (set_marks k asker node handle changes)

-- SETATTR
abbrev pub set_attributes_by : Known → Asker → ℕ → Handle → AttributeChanges → Result Settings Errno → Turn Told
set_attributes_by k asker node handle changes (Err e) = refused k e
set_attributes_by k asker node handle changes (Ok settings) =
    with_path (no_memory, k) handle.number [] (set_by_path k asker node handle changes settings)

abbrev pub set_attributes : Known → Asker → ℕ → Handle → AttributeChanges → Turn Told
set_attributes k asker node handle changes = set_attributes_by k asker node handle changes (settings_of changes)
