-- The calls on descriptors (POSIX.1-2017, open(), close(), read(), write(), lseek(), ftruncate(),
-- fchmod(), fchown(), futimens(), fstat(), fsync()), and what a write does to a file. `now` is the time of the call, where
-- the file system keeps times.
use Rattle.std.specs.Prelude.{ℕ, ℤ, pos, nat_abs, ◌+ℤ◌, ◌+◌, min, nat_lt, not, ◌&&◌, ◌||◌, if◌then◌else◌, Bool, true, false, Option, List, [], ◌∷◌, ◌++◌, length, Some, None}
use Rattle.model.specs.declared.attributes.Permissions.{Permissions}
use Rattle.model.specs.declared.command.NewTime.{NewTime}
use Rattle.model.specs.declared.limits.TheConstants.{OPEN_FILES, GREATEST_OFFSET}
use Rattle.model.specs.declared.errno.Errno.TheVariants.{ENOENT, EISDIR, EEXIST, EINVAL, EBADF, EMFILE, EFBIG, EOVERFLOW}
use Rattle.model.specs.declared.reply.Reply.TheVariants as reply
use Rattle.model.specs.declared.command.Flags.{Flags}
use Rattle.model.specs.declared.command.Access.{Access}
use Rattle.model.specs.declared.command.Access.TheVariants as access
use Rattle.model.specs.declared.command.Whence.{Whence}
use Rattle.model.specs.declared.command.Whence.TheVariants as whence
use Rattle.model.specs.declared.limits.Limits.{Limits}
use Rattle.model.specs.Paths.{Name, Path, Tests, text_tests_then, is_empty}
use Rattle.model.specs.Trees.{Tree, Object, directory, symlink, file, Description}
use Rattle.model.specs.Edits.{contents, marked, read_at, written, with_bytes, with_file, with_descriptor}
use Rattle.model.specs.Touches.{touches_object}
use Rattle.model.specs.declared.attributes.Touch.TheVariants.{Data}
use Rattle.model.specs.declared.time.Time.{Time}
use Rattle.model.specs.Room.{Need, nothing, logs, adds_name, puts_bytes, changes_bits}
use Rattle.model.specs.Outcomes.{Outcome, answers, refuses, changes, changes_swept, tested, either, goes_along, goes_to, with_place, with_fresh, with_links, lowest_free, described}
use Rattle.model.specs.Stats.{stat_of}
use Rattle.model.specs.Reading.{attribute_tests, is_negative, is_too_many, tells_attributes, tells_stat}
use Rattle.model.specs.Changing.{entered, gives_owners, gives_time, meant_time, time_tests, with_changed_mode, truncated_to, need_of_truncate, truncates_file, size_tests}

-- a file opened so may be read
abbrev pub is_reading : Access → Bool
is_reading access.Writing = false
is_reading _ = true

-- a file opened so may be written
abbrev pub is_writing : Access → Bool
is_writing access.Reading = false
is_writing _ = true

-- the description of the file n as it is just opened with these flags, at offset 0
abbrev pub described_by : ℕ → Flags → Description
described_by n flags = record { number = n; offset = 0; reads = is_reading flags.access; writes = is_writing flags.access; appends = flags.appends }

-- the tree with the offset of a descriptor moved
abbrev pub with_offset : ℕ → Description → ℕ → Tree → Tree
with_offset fd f offset t = with_descriptor fd (Some (record f { offset = offset })) t

-- a file is opened: its descriptor is told, and with `openstat` what `fstat` tells of it then
abbrev pub opens_file : Bool → ℕ → Flags → ℕ → Tree → Need → Outcome
opens_file tells n flags fd t need =
    let opened = with_descriptor fd (Some (described_by n flags)) t in
    either tells
    (with_links opened (file n) (λ links. changes (reply.Opened fd (stat_of opened (file n) links)) opened need))
    (changes (reply.Fd fd) opened need)

-- `open` where an object stands: a file is opened, and truncated to no bytes where the flags say
-- so; a directory is refused, and so is anything where the flags want a new file
abbrev pub opens_object : Bool → Option Time → Tree → Object → Flags → ℕ → Outcome
opens_object tells now t o flags fd =
    tested t ((flags.creates && flags.exclusive, EEXIST) ∷ []) (elim o [
      | directory n ↦ refuses t EISDIR
      | symlink n text ↦ λ _ _ _. ⊥  -- a final link is followed
      | file n ↦ either flags.truncates
          (opens_file tells n flags fd (truncated_to now n 0 t) (need_of_truncate now n 0 t))
          (opens_file tells n flags fd t nothing)
    ])

-- `open` where nothing stands: a file is made and opened where the flags say so
abbrev pub opens_new : Bool → Limits → Option Time → Tree → Path → Name → Flags → Permissions → ℕ → Outcome
opens_new tells limits now t p name flags permissions fd =
    tested t ((not flags.creates, ENOENT) ∷ [])
    (with_place limits t p (with_fresh limits t (λ n.
    opens_file tells n flags fd (entered now Data n p t (with_file (p ++ name ∷ []) n permissions t)) (logs adds_name))))

-- the tests of the flags: no exclusive without create, and no truncating without writing
abbrev pub open_tests : Flags → Tests
open_tests flags = (flags.exclusive && not flags.creates, EINVAL) ∷ (flags.truncates && not (is_writing flags.access), EINVAL) ∷ []

-- `open` and `openstat`: a file that is there, or a new one, gets the lowest free descriptor, which
-- is below a number
abbrev pub opens : Bool → ℕ → Limits → Option Time → Tree → List ℕ → Flags → Permissions → Outcome
opens tells below limits now t path flags permissions =
    tested t (text_tests_then limits (open_tests flags) path) (elim (lowest_free t.descriptors (min below OPEN_FILES)) [
      | None ↦ refuses t EMFILE
      | Some fd ↦ goes_along t (not (flags.creates && flags.exclusive)) path
          (λ p o. opens_object tells now t o flags fd)
          (λ p name. opens_new tells limits now t p name flags permissions fd)
    ])

-- `close`: the descriptor is free, and a file with no name and no other descriptor is gone
abbrev pub closes : Tree → ℕ → Outcome
closes t fd = described t fd (λ f. changes_swept reply.Done (with_descriptor fd None t) nothing)

-- `read`: as many bytes as asked and there, from the descriptor's offset on, which moves behind
-- them
abbrev pub reads : Tree → ℕ → ℕ → Outcome
reads t fd count =
    described t fd (λ f. tested t ((not f.reads, EBADF) ∷ (is_too_many count, EINVAL) ∷ [])
    (let given = read_at f.offset count (contents t f.number) in changes (reply.Data given) (with_offset fd f (f.offset + length given) t) nothing))

-- `pread`: as many bytes as asked and there, from this offset on, and no offset moves
abbrev pub reads_from : Tree → ℕ → ℤ → ℕ → Outcome
reads_from t fd offset count =
    described t fd (λ f. tested t ((not f.reads, EBADF) ∷ (is_negative offset || is_too_many count, EINVAL) ∷ [])
    (answers t (reply.Data (read_at (nat_abs offset) count (contents t f.number)))))

-- data goes to a file at an offset: where there is any and the limit holds it, it is written, and
-- what else changes is `also`
abbrev pub puts : Limits → Option Time → Tree → ℕ → ℕ → List ℕ → (Tree → Tree) → Outcome
puts limits now t n offset given also =
    either (is_empty given) (answers t (reply.Wrote 0))
    (tested t ((nat_lt limits.file_bytes (offset + length given), EFBIG) ∷ [])
    (changes (reply.Wrote (length given)) (also (marked now (touches_object Data n) (with_bytes n (written offset given (contents t n)) t)))
    (logs (puts_bytes (length (contents t n)) offset (length given)))))

-- `store`: data goes to the file that a path leads to, at this offset
abbrev pub stores : Limits → Option Time → Tree → List ℕ → ℤ → List ℕ → Outcome
stores limits now t path offset given =
    tested t (text_tests_then limits ((is_negative offset || is_too_many (length given), EINVAL) ∷ []) path)
    (goes_to t true path (λ p o. elim o [
      | file n ↦ puts limits now t n (nat_abs offset) given (λ after. after)
      | directory n ↦ refuses t EISDIR
      | symlink n text ↦ λ _ _ _. ⊥  -- a final link is followed
    ]))

-- `write`: data goes to the descriptor's offset, or behind the last byte under append, and the
-- offset moves behind it
abbrev pub writes : Limits → Option Time → Tree → ℕ → List ℕ → Outcome
writes limits now t fd given =
    described t fd (λ f. tested t ((not f.writes, EBADF) ∷ (is_too_many (length given), EINVAL) ∷ [])
    (let offset = if f.appends then length (contents t f.number) else f.offset in puts limits now t f.number offset given (with_offset fd f (offset + length given))))

-- `pwrite`: data goes to this offset, also under append, and the descriptor's own doesn't move
abbrev pub writes_to : Limits → Option Time → Tree → ℕ → ℤ → List ℕ → Outcome
writes_to limits now t fd offset given =
    described t fd (λ f. tested t ((not f.writes, EBADF) ∷ (is_negative offset || is_too_many (length given), EINVAL) ∷ [])
    (puts limits now t f.number (nat_abs offset) given (λ after. after)))

-- from where an offset of `lseek` counts: the start, the descriptor's offset, or the end of the
-- file
abbrev pub base_of : Tree → Description → Whence → ℕ
base_of t f whence.Set = 0
base_of t f whence.Cur = f.offset
base_of t f whence.End = length (contents t f.number)

-- `lseek`: the descriptor's offset moves to a place counted from the start, from itself or from the
-- end
abbrev pub seeks : Tree → ℕ → Whence → ℤ → Outcome
seeks t fd from offset =
    described t fd (λ f. let place = pos (base_of t f from) +ℤ offset in
    tested t ((is_negative place, EINVAL) ∷ (nat_lt GREATEST_OFFSET (nat_abs place), EOVERFLOW) ∷ [])
    (changes (reply.At (nat_abs place)) (with_offset fd f (nat_abs place) t) nothing))

-- `ftruncate`: the file of a descriptor for writing gets this size
abbrev pub truncates_open : Limits → Option Time → Tree → ℕ → ℤ → Outcome
truncates_open limits now t fd size = described t fd (λ f. tested t ((not f.writes, EINVAL) ∷ size_tests limits size) (truncates_file now t f.number (nat_abs size)))

-- `fchmod`: the file of a descriptor gets this mode, whatever the descriptor is for
abbrev pub changes_open_mode : Option Time → Tree → ℕ → ℕ → Outcome
changes_open_mode now t fd mode = described t fd (λ f. changes reply.Done (with_changed_mode now f.number mode t) (logs changes_bits))

-- `fchown`: the file of a descriptor gets an owner and a group, whatever the descriptor is for
abbrev pub changes_open_owners : Limits → Option Time → Tree → ℕ → Option ℕ → Option ℕ → Outcome
changes_open_owners limits now t fd owner group =
    tested t (attribute_tests limits) (described t fd (λ f. gives_owners now t f.number owner group))

-- `futimens`: the data of a descriptor's file gets a time, whatever the descriptor is for
abbrev pub changes_open_times : Limits → Option Time → Tree → ℕ → NewTime → Outcome
changes_open_times limits now t fd time =
    tested t (attribute_tests limits)
    (described t fd (λ f. tested t (time_tests time) (gives_time now t f.number (meant_time now time))))

-- `fstat`: what `stat` tells, of the file of a descriptor
abbrev pub stats_open : Tree → ℕ → Outcome
stats_open t fd = described t fd (λ f. tells_stat t (file f.number))

-- `fattr`: what `attr` tells, of the file of a descriptor
abbrev pub attributes_open : Limits → Tree → ℕ → Outcome
attributes_open limits t fd = tested t (attribute_tests limits) (described t fd (λ f. tells_attributes t (file f.number)))

-- `fsync`: done at once, for every answered call is kept already
abbrev pub syncs_open : Tree → ℕ → Outcome
syncs_open t fd = described t fd (λ f. answers t reply.Done)
