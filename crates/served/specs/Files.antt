-- What requests come to that read and write files. `k` is what the server knows.
use Rattle.std.specs.Prelude.{ℕ, zero, suc, ℤ, pos, ◌+◌, ◌-◌, ◌^◌, ◌==◌, ◌||◌, ◌≡◌, min, nat_lt, not, Bool, true, false, List, [], ◌++◌, length, take, drop, Option, Some, None, if◌then◌else◌}
use Rattle.file_system.specs.declared.handle.Handle.{Handle}
use Rattle.model.specs.declared.command.Command.{Command}
use Rattle.model.specs.declared.command.Command.TheVariants as command
use Rattle.model.specs.declared.command.PathCall.TheVariants as call
use Rattle.model.specs.declared.errno.Errno.{Errno}
use Rattle.model.specs.declared.errno.Errno.TheVariants as errno
use Rattle.model.specs.declared.limits.TheConstants.{TRANSFER_BYTES}
use Rattle.model.specs.declared.reply.Reply.TheVariants as reply
use Rattle.served.specs.Keeping.{closed_once, is_held}
use Rattle.served.specs.Known.{Known, with_removed}
use Rattle.served.specs.Looking.{no_memory}
use Rattle.served.specs.Making.{touched}
use Rattle.served.specs.Marks.{written}
use Rattle.served.specs.Setting.{Told, looks}
use Rattle.served.specs.Turns.{Turn, ◌▹◌, asks_for, either, gives, gives_some, told_done, with_path}
use Rattle.served.specs.declared.answer.Answer.{Answer}
use Rattle.served.specs.declared.answer.Answer.TheVariants as answer
use Rattle.served.specs.declared.files.Place.{Place}
use Rattle.served.specs.declared.files.Place.TheVariants as place
use Rattle.served.specs.declared.marks.Asker.{Asker}
use Rattle.served.specs.declared.memory.Removed.{Removed}
use Rattle.served.specs.declared.numbers.TheConstants.{MOST_PARTS}

-- the command that reads so many bytes of a file from an offset on: of an open one, or in a snapshot
abbrev pub Reading : Type 0
Reading = ℤ → ℕ → Command

abbrev pub read_open : ℕ → Reading
read_open fd offset count = command.Pread fd offset count

abbrev pub read_in : List ℕ → List ℕ → Reading
read_in name path offset count = command.Within name (call.Get path offset count)

abbrev pub reading_of : Place → Reading
reading_of (place.Open fd) = read_open fd
reading_of (place.Within name path) = read_in name.now path.now

-- the offset that a call can have, if there is one: it is below 2^63
abbrev pub IsOffset : ℕ → Option ℤ → Type 0
IsOffset offset (Some at) = (nat_lt offset (2 ^ 63) ≡ true) × (at ≡ pos offset)
IsOffset offset None = nat_lt offset (2 ^ 63) ≡ false

-- so many bytes are asked at a time
abbrev pub asked_at_once : ℕ → ℕ
asked_at_once left = min left TRANSFER_BYTES

-- a part was refused: what was read before it is given, or the refusal where nothing was
abbrev pub read_before : List ℕ → Errno → Answer
read_before [] e = answer.Refused e
read_before had e = answer.Bytes had

-- no more is read: all that is asked is there, or no call has such an offset
abbrev pub is_enough : ℕ → ℕ → List ℕ → Bool
is_enough offset count had = (count - length had == 0) || not (nat_lt (offset + length had) (2 ^ 63))

-- a part was read behind others, of which so many bytes were asked: `rest` goes on behind it, but
-- where it is shorter the file ends
abbrev pub read_behind : ℕ → List ℕ → (List ℕ → Turn Answer) → List ℕ → Turn Answer
read_behind asked had rest part = gives_some (λ (kept : Bool). Unit {0}) ▹ (λ kept.
    either kept
    (either (nat_lt (length part) asked) (gives (answer.Bytes (had ++ part))) (rest (had ++ part)))
    (gives no_memory))

-- one part is read
abbrev pub read_more : Reading → ℕ → ℕ → List ℕ → (List ℕ → Turn Answer) → Turn Answer
read_more read offset count had rest =
    let asked = asked_at_once (count - length had) in
    asks_for reply.Data (read (pos (offset + length had)) asked) (λ e. gives (read_before had e)) (read_behind asked had rest)

-- READ, in so many parts at the most, behind those that were read: as many bytes as are asked and there
unfoldable pub reads : Reading → ℕ → ℕ → ℕ → List ℕ → Turn Answer
reads read offset count zero had = gives (answer.Bytes had)
reads read offset count (suc parts) had =
    either (is_enough offset count had) (gives (answer.Bytes had)) (read_more read offset count had (reads read offset count parts))

-- READ in a snapshot
abbrev pub read_within : List ℕ → ℕ → ℕ → ℕ → Turn Answer
read_within name number offset count = with_path no_memory number [] (λ path.
    reads (read_in name path) offset count MOST_PARTS [])

-- WRITE: a part was refused: how many bytes were written before it, or the refusal where none were
abbrev pub wrote_before : ℕ → Errno → Answer
wrote_before done e = if done == 0 then answer.Refused e else answer.Wrote done

-- one part is written
abbrev pub write_more : ℕ → ℕ → List ℕ → ℕ → (List ℕ → ℕ → Turn Answer) → Turn Answer
write_more fd offset bytes done rest =
    let part = take TRANSFER_BYTES bytes in
    asks_for reply.Wrote (command.Pwrite fd (pos (offset + done)) part) (λ e. gives (wrote_before done e))
    (λ n. rest (drop TRANSFER_BYTES bytes) (done + length part))

-- in so many parts at the most, behind so many bytes that were written: all, or those before a part
-- that is refused
unfoldable pub writes : ℕ → ℕ → List ℕ → ℕ → ℕ → Turn Answer
writes fd offset bytes zero done = gives (answer.Wrote done)
writes fd offset bytes (suc parts) done =
    either (length bytes == 0) (gives (answer.Wrote done))
    (either (nat_lt (offset + done) (2 ^ 63))
    (write_more fd offset bytes done (λ behind now. writes fd offset behind parts now))
    (gives (wrote_before done errno.EFBIG)))

-- a file's data changed now; what has no name any more has its marks by itself
abbrev pub written_gone : Removed → Asker → Removed
written_gone removed asker = record removed { marks = written asker.now removed.marks }

abbrev pub with_written_by : Known → Asker → ℕ → Handle → Option Removed → Known
with_written_by k asker node handle (Some removed) = with_removed node (written_gone removed asker) k
with_written_by k asker node handle None = touched k asker handle

abbrev pub with_written : Known → Asker → ℕ → Handle → Known
with_written k asker node handle = with_written_by k asker node handle (k.removed node)

-- the same, if bytes were written
abbrev pub marked_written : Known → Asker → ℕ → Handle → Answer → Known
marked_written k asker node handle (answer.Wrote n) = with_written k asker node handle
marked_written k asker node handle told = k

abbrev pub write : Known → Asker → ℕ → Handle → ℕ → ℕ → List ℕ → Turn Told
write k asker node handle fd offset bytes =
    writes fd offset bytes MOST_PARTS 0 ▹ (λ told. gives (told, marked_written k asker node handle told))

-- a descriptor is closed
abbrev pub closes : ℕ → Turn Answer
closes fd = asks_for told_done (command.Close fd) (λ e. gives (answer.Refused e)) (λ d. gives answer.Done)

-- RELEASE: an open file is closed; what is kept of one that has no name any more stays open
abbrev pub release_gone : Known → ℕ → ℕ → Option Removed → Turn Told
release_gone k node fd None = looks k (closes fd)
release_gone k node fd (Some removed) =
    either (is_held removed.held fd) (gives (answer.Done, with_removed node (closed_once removed) k)) (looks k (closes fd))

abbrev pub release : Known → ℕ → ℕ → Turn Told
release k node fd = release_gone k node fd (k.removed node)
