-- How files are read and written, part by part.
use Rattle.std.proofs.Common.{◌≡◌, ◌≢◌, ◌+◌, ◌-◌, ◌^◌, ◌<◌, ◌≤◌, ◌==◌, ◌||◌, not, nat_lt, ℕ, zero, suc, ℤ, pos, Bool, true, false, List, ◌++◌, length, take, drop, Some, Result, Ok, Err, w64, FitsSigned, to_z, of_z, refl, sym, ap, subst, ◌∙◌, arith}
use Rattle.std.proofs.lemmas.Bool.{eq-eqb, le-ltb, lt-ltb, ltb-true}
use Rattle.std.proofs.lemmas.Bool.Decides.{nat_tests}
use Rattle.std.proofs.lemmas.Int.{fits_signed_from_abs, to_z-of_z}
use Rattle.file_system.specs.declared.file_system.FileSystem.{Ghosts}
use Rattle.file_system.specs.declared.handle.Handle.{Handle}
use Rattle.model.specs.declared.command.Command.TheVariants as command
use Rattle.model.specs.declared.errno.Errno.{Errno}
use Rattle.model.specs.declared.errno.Errno.TheVariants as errno
use Rattle.model.specs.declared.limits.TheConstants.{TRANSFER_BYTES}
use Rattle.model.specs.declared.reply.Reply.TheVariants as reply
use Rattle.served.proofs.TurnLaws.{came_gives, came_given, came_some, came_then, came_then_if, came_else, came_done, came_refused}
use Rattle.served.specs.Files.{IsOffset, Reading, asked_at_once, closes, is_enough, marked_written, read_before, read_behind, read_more, reads, release_gone, write, write_more, writes, wrote_before}
use Rattle.served.specs.Keeping.{closed_once, is_held}
use Rattle.served.specs.Known.{Known, with_removed}
use Rattle.served.specs.Looking.{no_memory}
use Rattle.served.specs.Setting.{Told, looks}
use Rattle.served.specs.Turns.{Came, Turn, asks, either, gives, gives_some}
use Rattle.served.specs.declared.answer.Answer.{Answer}
use Rattle.served.specs.declared.answer.Answer.TheVariants as answer
use Rattle.served.specs.declared.marks.Asker.{Asker}
use Rattle.served.specs.declared.memory.Removed.{Removed}
use Rattle.served.specs.declared.numbers.TheConstants.{MOST_PARTS}

not_zero : (a : ℕ) → 0 < a → (a == 0) ≡ false
not_zero a h = grind (arith, nat_tests)

one_less : (parts : ℕ) → parts ≡ suc parts - 1
one_less parts = omega arith

pub enough_there : (offset count : ℕ) (had : List ℕ) → count - length had ≡ 0 → is_enough offset count had ≡ true
enough_there offset count had none =
    subst (λ (b : Bool). (b || not (nat_lt (offset + length had) (2 ^ 63))) ≡ true) (sym (eq-eqb (count - length had) 0 none)) refl

pub enough_far : (offset count : ℕ) (had : List ℕ) → 0 < count - length had → nat_lt (offset + length had) (2 ^ 63) ≡ false → is_enough offset count had ≡ true
enough_far offset count had some far =
    subst (λ (b : Bool). (b || not (nat_lt (offset + length had) (2 ^ 63))) ≡ true) (sym (not_zero (count - length had) some))
    (subst (λ (b : Bool). (false || not b) ≡ true) (sym far) refl)

not_enough : (offset count : ℕ) (had : List ℕ) → 0 < count - length had → nat_lt (offset + length had) (2 ^ 63) ≡ true → is_enough offset count had ≡ false
not_enough offset count had some near =
    subst (λ (b : Bool). (b || not (nat_lt (offset + length had) (2 ^ 63))) ≡ false) (sym (not_zero (count - length had) some))
    (subst (λ (b : Bool). (false || not b) ≡ false) (sym near) refl)

-- an offset that is passed to a call is the same there
pub passed : (offset : ℕ) (at : ℤ) → IsOffset offset (Some at) → IsOffset offset (Some (to_z w64 (of_z w64 at)))
passed offset at (low, is) =
    let fits : FitsSigned w64 at = subst (λ (z : ℤ). FitsSigned w64 z) (sym is) (fits_signed_from_abs w64 (pos offset) (ltb-true offset (2 ^ 63) low)) in
    (low, to_z-of_z w64 at fits ∙ is)

-- a part more is asked, at an offset, of so many bytes
pub record Asks (offset count parts : ℕ) (had : List ℕ) (at : ℤ) (asked : ℕ) : Type 0 where
  pub some_parts : 0 < parts
  pub some_left : 0 < count - length had
  pub low : IsOffset (offset + length had) (Some at)
  pub as_asked : asked ≡ asked_at_once (count - length had)

module _ {S : Type 0} (G : Ghosts S) where
  module _ (read : Reading) (offset count : ℕ) where
    pub reads_end : (s : S) (parts : ℕ) (had : List ℕ) → parts ≡ 0 → Came G s s (reads read offset count parts had) (answer.Bytes had)
    unfolding reads
    reads_end s parts had none =
        subst (λ (n : ℕ). Came G s s (reads read offset count n had) (answer.Bytes had)) (sym none) (came_gives G s (answer.Bytes had))

    pub reads_enough : (s : S) (parts : ℕ) (had : List ℕ) → is_enough offset count had ≡ true → Came G s s (reads read offset count parts had) (answer.Bytes had)
    unfolding reads
    reads_enough s zero had enough = came_gives G s (answer.Bytes had)
    reads_enough s (suc parts) had enough =
        came_then_if G s s (is_enough offset count had) (gives (answer.Bytes had)) (read_more read offset count had (reads read offset count parts)) (answer.Bytes had) enough
        (came_gives G s (answer.Bytes had))

    reads_on : (old new : S) (parts : ℕ) (had : List ℕ) (r : Answer) → 0 < parts → is_enough offset count had ≡ false → Came G old new (read_more read offset count had (reads read offset count (parts - 1))) r
        → Came G old new (reads read offset count parts had) r
    unfolding reads
    reads_on old new zero had r some more done = absurd (omega arith)
    reads_on old new (suc parts) had r some more done =
        came_else G old new (is_enough offset count had) (gives (answer.Bytes had)) (read_more read offset count had (reads read offset count parts)) r more
        (subst (λ (n : ℕ). Came G old new (read_more read offset count had (reads read offset count n)) r) (sym (one_less parts)) done)

    asked_so : (old new : S) (parts : ℕ) (had : List ℕ) (at : ℤ) (asked : ℕ) (found : Result (List ℕ) Errno) → Asks offset count parts had at asked → Came G old new (asks reply.Data (read at asked)) found
        → Came G old new (asks reply.Data (read (pos (offset + length had)) (asked_at_once (count - length had)))) found
    asked_so old new parts had at asked found on done =
        subst (λ (n : ℕ). Came G old new (asks reply.Data (read (pos (offset + length had)) n)) found) on.as_asked
        (subst (λ (z : ℤ). Came G old new (asks reply.Data (read z asked)) found) on.low.1 done)

    -- a part is refused
    pub read_refused : (old new : S) (parts : ℕ) (had : List ℕ) (at : ℤ) (asked : ℕ) (e : Errno) → Asks offset count parts had at asked → Came G old new (asks reply.Data (read at asked)) (Err e)
        → Came G old new (reads read offset count parts had) (read_before had e)
    read_refused old new parts had at asked e on done =
        reads_on old new parts had (read_before had e) on.some_parts (not_enough offset count had on.some_left on.low.0)
        (came_refused G old new new reply.Data (read (pos (offset + length had)) (asked_at_once (count - length had))) (λ (e : Errno). gives (read_before had e))
        (read_behind (asked_at_once (count - length had)) had (reads read offset count (parts - 1))) e (read_before had e) (asked_so old new parts had at asked (Err e) on done)
        (came_gives G new (read_before had e)))

    -- one is read
    read_part : (old mid new : S) (parts : ℕ) (had : List ℕ) (at : ℤ) (asked : ℕ) (part : List ℕ) (r : Answer) → Asks offset count parts had at asked → Came G old mid (asks reply.Data (read at asked)) (Ok part)
        → Came G mid new (read_behind asked had (reads read offset count (parts - 1)) part) r → Came G old new (reads read offset count parts had) r
    read_part old mid new parts had at asked part r on done then =
        reads_on old new parts had r on.some_parts (not_enough offset count had on.some_left on.low.0)
        (came_done G old mid new reply.Data (read (pos (offset + length had)) (asked_at_once (count - length had))) (λ (e : Errno). gives (read_before had e))
        (read_behind (asked_at_once (count - length had)) had (reads read offset count (parts - 1))) part r (asked_so old mid parts had at asked (Ok part) on done)
        (subst (λ (n : ℕ). Came G mid new (read_behind n had (reads read offset count (parts - 1)) part) r) on.as_asked then))

    behind : (old new : S) (asked : ℕ) (had part : List ℕ) (rest : List ℕ → Turn Answer) (r : Answer) (kept : Bool)
        → Came G old new (either kept (either (nat_lt (length part) asked) (gives (answer.Bytes (had ++ part))) (rest (had ++ part))) (gives no_memory)) r → Came G old new (read_behind asked had rest part) r
    behind old new asked had part rest r kept done =
        came_then G old old new (gives_some (λ (b : Bool). Unit {0}))
        (λ (b : Bool). either b (either (nat_lt (length part) asked) (gives (answer.Bytes (had ++ part))) (rest (had ++ part))) (gives no_memory)) kept r
        (came_some G old (λ (b : Bool). Unit {0}) kept tt) done

    -- and there is no memory for it, or it is the last one, or it goes on behind it
    pub read_unkept : (old new : S) (parts : ℕ) (had : List ℕ) (at : ℤ) (asked : ℕ) (part : List ℕ) → Asks offset count parts had at asked → Came G old new (asks reply.Data (read at asked)) (Ok part)
        → Came G old new (reads read offset count parts had) no_memory
    read_unkept old new parts had at asked part on done =
        read_part old new new parts had at asked part no_memory on done (behind new new asked had part (reads read offset count (parts - 1)) no_memory false (came_gives G new no_memory))

    pub read_last : (old new : S) (parts : ℕ) (had : List ℕ) (at : ℤ) (asked : ℕ) (part : List ℕ) → Asks offset count parts had at asked → Came G old new (asks reply.Data (read at asked)) (Ok part)
        → length part < asked → Came G old new (reads read offset count parts had) (answer.Bytes (had ++ part))
    read_last old new parts had at asked part on done short =
        read_part old new new parts had at asked part (answer.Bytes (had ++ part)) on done
        (behind new new asked had part (reads read offset count (parts - 1)) (answer.Bytes (had ++ part)) true
        (came_then_if G new new (nat_lt (length part) asked) (gives (answer.Bytes (had ++ part))) (reads read offset count (parts - 1) (had ++ part)) (answer.Bytes (had ++ part))
        (lt-ltb (length part) asked short) (came_gives G new (answer.Bytes (had ++ part)))))

    pub read_on : (old mid new : S) (parts : ℕ) (had : List ℕ) (at : ℤ) (asked : ℕ) (part : List ℕ) (r : Answer) → Asks offset count parts had at asked → Came G old mid (asks reply.Data (read at asked)) (Ok part)
        → asked ≤ length part → Came G mid new (reads read offset count (parts - 1) (had ++ part)) r → Came G old new (reads read offset count parts had) r
    read_on old mid new parts had at asked part r on done whole then =
        read_part old mid new parts had at asked part r on done
        (behind mid new asked had part (reads read offset count (parts - 1)) r true
        (came_else G mid new (nat_lt (length part) asked) (gives (answer.Bytes (had ++ part))) (reads read offset count (parts - 1) (had ++ part)) r
        (le-ltb (length part) asked whole) then))

  module _ (fd offset : ℕ) where
    pub writes_end : (s : S) (bytes : List ℕ) (parts done : ℕ) → parts ≡ 0 → Came G s s (writes fd offset bytes parts done) (answer.Wrote done)
    unfolding writes
    writes_end s bytes parts done none =
        subst (λ (n : ℕ). Came G s s (writes fd offset bytes n done) (answer.Wrote done)) (sym none) (came_gives G s (answer.Wrote done))

    pub writes_all : (s : S) (bytes : List ℕ) (parts done : ℕ) → (length bytes == 0) ≡ true → Came G s s (writes fd offset bytes parts done) (answer.Wrote done)
    unfolding writes
    writes_all s bytes zero done none = came_gives G s (answer.Wrote done)
    writes_all s bytes (suc parts) done none =
        came_then_if G s s (length bytes == 0) (gives (answer.Wrote done))
        (either (nat_lt (offset + done) (2 ^ 63)) (write_more fd offset bytes done (λ (b : List ℕ) (n : ℕ). writes fd offset b parts n)) (gives (wrote_before done errno.EFBIG)))
        (answer.Wrote done) none (came_gives G s (answer.Wrote done))

    writes_on : (old new : S) (bytes : List ℕ) (parts done : ℕ) (r : Answer) → 0 < parts → (length bytes == 0) ≡ false
        → Came G old new (either (nat_lt (offset + done) (2 ^ 63)) (write_more fd offset bytes done (λ (b : List ℕ) (n : ℕ). writes fd offset b (parts - 1) n)) (gives (wrote_before done errno.EFBIG))) r
        → Came G old new (writes fd offset bytes parts done) r
    unfolding writes
    writes_on old new bytes zero done r some more then = absurd (omega arith)
    writes_on old new bytes (suc parts) done r some more then =
        came_else G old new (length bytes == 0) (gives (answer.Wrote done))
        (either (nat_lt (offset + done) (2 ^ 63)) (write_more fd offset bytes done (λ (b : List ℕ) (n : ℕ). writes fd offset b parts n)) (gives (wrote_before done errno.EFBIG)))
        r more
        (subst (λ (m : ℕ). Came G old new (either (nat_lt (offset + done) (2 ^ 63)) (write_more fd offset bytes done (λ (b : List ℕ) (n : ℕ). writes fd offset b m n)) (gives (wrote_before done errno.EFBIG))) r)
        (sym (one_less parts)) then)

    -- no call has such an offset
    pub writes_far : (s : S) (bytes : List ℕ) (parts done : ℕ) → 0 < parts → (length bytes == 0) ≡ false → nat_lt (offset + done) (2 ^ 63) ≡ false
        → Came G s s (writes fd offset bytes parts done) (wrote_before done errno.EFBIG)
    writes_far s bytes parts done some more far =
        writes_on s s bytes parts done (wrote_before done errno.EFBIG) some more
        (came_else G s s (nat_lt (offset + done) (2 ^ 63)) (write_more fd offset bytes done (λ (b : List ℕ) (n : ℕ). writes fd offset b (parts - 1) n)) (gives (wrote_before done errno.EFBIG))
        (wrote_before done errno.EFBIG) far (came_gives G s (wrote_before done errno.EFBIG)))

    writes_near : (old new : S) (bytes : List ℕ) (parts done : ℕ) (r : Answer) → 0 < parts → (length bytes == 0) ≡ false → nat_lt (offset + done) (2 ^ 63) ≡ true
        → Came G old new (write_more fd offset bytes done (λ (b : List ℕ) (n : ℕ). writes fd offset b (parts - 1) n)) r → Came G old new (writes fd offset bytes parts done) r
    writes_near old new bytes parts done r some more near then =
        writes_on old new bytes parts done r some more
        (came_then_if G old new (nat_lt (offset + done) (2 ^ 63)) (write_more fd offset bytes done (λ (b : List ℕ) (n : ℕ). writes fd offset b (parts - 1) n)) (gives (wrote_before done errno.EFBIG))
        r near then)

    -- a part is asked at this offset, and found so
    part_so : (old new : S) (done : ℕ) (at : ℤ) (part : List ℕ) (bytes : List ℕ) (found : Result ℕ Errno) → at ≡ pos (offset + done) → part ≡ take TRANSFER_BYTES bytes
        → Came G old new (asks reply.Wrote (command.Pwrite fd at part)) found → Came G old new (asks reply.Wrote (command.Pwrite fd (pos (offset + done)) (take TRANSFER_BYTES bytes))) found
    part_so old new done at part bytes found is so did =
        subst (λ (p : List ℕ). Came G old new (asks reply.Wrote (command.Pwrite fd (pos (offset + done)) p)) found) so
        (subst (λ (z : ℤ). Came G old new (asks reply.Wrote (command.Pwrite fd z part)) found) is did)

    pub writes_refused : (old new : S) (bytes : List ℕ) (parts done : ℕ) (at : ℤ) (part : List ℕ) (e : Errno) → 0 < parts → (length bytes == 0) ≡ false → IsOffset (offset + done) (Some at)
        → part ≡ take TRANSFER_BYTES bytes → Came G old new (asks reply.Wrote (command.Pwrite fd at part)) (Err e) → Came G old new (writes fd offset bytes parts done) (wrote_before done e)
    writes_refused old new bytes parts done at part e some more low so did =
        writes_near old new bytes parts done (wrote_before done e) some more low.0
        (came_refused G old new new reply.Wrote (command.Pwrite fd (pos (offset + done)) (take TRANSFER_BYTES bytes)) (λ (e : Errno). gives (wrote_before done e))
        (λ (n : ℕ). writes fd offset (drop TRANSFER_BYTES bytes) (parts - 1) (done + length (take TRANSFER_BYTES bytes))) e (wrote_before done e)
        (part_so old new done at part bytes (Err e) low.1 so did) (came_gives G new (wrote_before done e)))

    pub writes_part : (old mid new : S) (bytes : List ℕ) (parts done : ℕ) (at : ℤ) (part behind : List ℕ) (now n : ℕ) (r : Answer) → 0 < parts → (length bytes == 0) ≡ false → IsOffset (offset + done) (Some at)
        → part ≡ take TRANSFER_BYTES bytes → behind ≡ drop TRANSFER_BYTES bytes → now ≡ done + length part
        → Came G old mid (asks reply.Wrote (command.Pwrite fd at part)) (Ok n) → Came G mid new (writes fd offset behind (parts - 1) now) r → Came G old new (writes fd offset bytes parts done) r
    writes_part old mid new bytes parts done at part behind now n r some more low so rests is did then =
        writes_near old new bytes parts done r some more low.0
        (came_done G old mid new reply.Wrote (command.Pwrite fd (pos (offset + done)) (take TRANSFER_BYTES bytes)) (λ (e : Errno). gives (wrote_before done e))
        (λ (n : ℕ). writes fd offset (drop TRANSFER_BYTES bytes) (parts - 1) (done + length (take TRANSFER_BYTES bytes))) n r
        (part_so old mid done at part bytes (Ok n) low.1 so did)
        (subst (λ (m : ℕ). Came G mid new (writes fd offset (drop TRANSFER_BYTES bytes) (parts - 1) m) r) (is ∙ ap (λ (p : List ℕ). done + length p) so)
        (subst (λ (b : List ℕ). Came G mid new (writes fd offset b (parts - 1) now) r) rests then)))

  -- a file is written, and marked
  pub write_so : (old new : S) (k : Known) (asker : Asker) (node : ℕ) (handle : Handle) (fd offset : ℕ) (bytes : List ℕ) (told : Answer) (known : Known) → Came G old new (writes fd offset bytes MOST_PARTS 0) told
      → known ≡ marked_written k asker node handle told → Came G old new (write k asker node handle fd offset bytes) (told, known)
  write_so old new k asker node handle fd offset bytes told known did is =
      came_then G old new new (writes fd offset bytes MOST_PARTS 0) (λ (a : Answer). gives {R = Told} (a, marked_written k asker node handle a)) told (told, known) did
      (subst (λ (m : Known). Came G new new (gives {R = Told} (told, marked_written k asker node handle told)) (told, m)) (sym is) (came_gives G new {R = Told} (told, marked_written k asker node handle told)))

module _ {S : Type 0} (G : Ghosts S) where
  -- what is kept of a file stays open
  pub kept_open : (s : S) (k known : Known) (node fd : ℕ) (removed : Removed) → is_held removed.held fd ≡ true → known ≡ with_removed node (closed_once removed) k
      → Came G s s (release_gone k node fd (Some removed)) (answer.Done, known)
  kept_open s k known node fd removed is same =
      let told : Known → Told = λ known. (answer.Done, known) in
      came_then_if G s s {R = Told} (is_held removed.held fd) (gives (told (with_removed node (closed_once removed) k))) (looks k (closes fd)) (told known) is
      (came_given G s {R = Told} (told (with_removed node (closed_once removed) k)) (told known) (ap told same))

pub unmarked : (k : Known) (asker : Asker) (node : ℕ) (handle : Handle) (told : Answer) → ((n : ℕ) → told ≢ answer.Wrote n) → k ≡ marked_written k asker node handle told
unmarked k asker node handle (answer.Wrote n) not = absurd (not n refl)
unmarked k asker node handle told not = refl
