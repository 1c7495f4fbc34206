-- What the definitions say of writing through a descriptor.
use Rattle.std.proofs.Common.{◌≡◌, ◌+◌, ◌||◌, ℕ, ℤ, nat_abs, List, length, if◌then◌else◌, Option, Some, None, Result, Ok, Err, refl, sym, ap, subst, ◌∙◌}
use Rattle.std.specs.Option.{option_map}
use Rattle.std.specs.Prelude.{IfErr, IfOk, IsSome, IsTrue, true}
use Rattle.std.specs.Result.{IsErrAnd}
use Rattle.std.proofs.lemmas.Result.{IfOk-weaker}
use Rattle.model.specs.declared.limits.Limits.{Limits}
use Rattle.layout.specs.StateLimits.{limits_of}
use Rattle.model.specs.Descriptors.{puts, with_offset, writes, writes_to}
use Rattle.model.specs.Edits.{contents}
use Rattle.model.specs.Outcomes.{Outcome}
use Rattle.model.specs.Reading.{is_negative, is_too_many}
use Rattle.model.specs.Records.{Change, applied, stamped, work_of, write}
use Rattle.model.specs.Room.{logs, nothing}
use Rattle.model.specs.Trees.{Tree, Description}
use Rattle.model.specs.Volumes.{IsMounted, Volume, is_file_node, tree_of}
use Rattle.model.specs.declared.errno.Errno.{Errno}
use Rattle.model.specs.declared.errno.Errno.TheVariants.{EFBIG}
use Rattle.model.specs.declared.reply.Reply.TheVariants.{Refused, Wrote}
use Rattle.model.specs.declared.time.Time.{Time}
use Rattle.buffers.specs.Errors.{IsFault}
use Rattle.buffers.specs.declared.error.BlockError.{BlockError}
use Rattle.buffers.specs.declared.blocks.Blocks.{Ghosts}
use Rattle.inofile.specs.declared.inode_file.InodeFile.{InodeFile}
use Rattle.paths.specs.Standing.{Looks}
use Rattle.records.specs.Failures.{read_outcome}
use Rattle.records.specs.Rewriting.{GoesOver, PutsBytes}
use Rattle.records.specs.Shown.{NeverDamaged, OnMounted}
use Rattle.records.specs.declared.failure.Failure.{Failure}
use Rattle.records.specs.declared.failure.Failure.TheVariants as failures
use Rattle.records.specs.declared.prepared.Prepared.{Prepared}
use Rattle.calls.specs.Refusals.{is_path_refusal}
use Rattle.calls.proofs.PrepareSteps.{carried}
use Rattle.descriptors.specs.Files.{description_of, figures_of}
use Rattle.descriptors.specs.Fits.{FitsVolume, IsFileOf}
use Rattle.descriptors.specs.Tables.{at_place, moved_to, open_at, put_open, table_of}
use Rattle.descriptors.proofs.MoveLemmas.{mounted_moved}
use Rattle.descriptors.specs.declared.open_file.OpenFile.{OpenFile}
use Rattle.descriptors.specs.declared.table.Descriptors.{Descriptors}
use Rattle.files.specs.Opened.{OnOpen, tree_with}
use Rattle.files.specs.Preparing.{PreparesOpen, PreparesTold}
use Rattle.files.specs.Reading.{PassesOpen}
use Rattle.files.specs.Writing.{IsTransfer, IsWrite, IsBehindWritten, PutsFile, WritesFile, of_writing, change_of_write, write_place, write_tests}
use Rattle.files.specs.declared.written.Written.{Written}
use Rattle.files.specs.declared.written.Writing.{Writing}
use Rattle.files.proofs.OpenLaws.{at_file}
use Rattle.files.proofs.Preparing.{refuses, stops}
use Rattle.files.proofs.ReadLaws.{figured_size, open_passes, open_refused}

-- a moved offset in the tree
moved_in_tree : (table : ℕ → Option Description) (fd place : ℕ) (v : Volume) (f : Description) → table fd ≡ Some f → with_offset fd f place (tree_of v table) ≡ tree_of v (moved_to fd place table)
moved_in_tree table fd place v f is = ap (λ (o : Option Description). tree_of v (put_open fd (option_map (at_place place) o) table)) (sym is)

-- ---- a write that is refused by a test

module _ (limits : Limits) (now : Option Time) (v : Volume) (table : Descriptors) (fd : ℕ) (bytes : List ℕ) where
  abbrev whole : Tree
  whole = tree_with table v

  pub write_refused : (errno : Errno) → PassesOpen (write_tests (is_too_many (length bytes))) table fd (Err errno) → writes limits now whole fd bytes (Refused errno) whole nothing
  write_refused errno is =
      open_refused table v fd (write_tests (is_too_many (length bytes)))
      (λ d. let offset = if d.appends then length (contents whole d.number) else d.offset in puts limits now whole d.number offset bytes (with_offset fd d (offset + length bytes))) errno is

  pub pwrite_refused : (offset : ℤ) (errno : Errno) → PassesOpen (write_tests (is_negative offset || is_too_many (length bytes))) table fd (Err errno)
      → writes_to limits now whole fd offset bytes (Refused errno) whole nothing
  pwrite_refused offset errno is =
      open_refused table v fd (write_tests (is_negative offset || is_too_many (length bytes))) (λ d. puts limits now whole d.number (nat_abs offset) bytes (λ after. after)) errno is

-- ---- bytes that go to an open file

module _ (limits : Limits) (now : Option Time) (v : Volume) (table : Descriptors) (fd : ℕ) (f : OpenFile) (bytes : List ℕ) (some : open_at table fd ≡ Some f) (fits : FitsVolume table v) where
  abbrev t : Tree
  t = tree_with table v

  size_now : length (contents t f.number) ≡ f.size
  size_now = figured_size (v f.number) (figures_of f) (fits.files fd f some)

  module _ (offset : ℕ) (w : Written) (is : IsBehindWritten f offset bytes w) (over : GoesOver limits v (table_of table) (stamped now (write f.number offset bytes))) where
    pub behind_is : w.behind ≡ offset + length bytes
    behind_is = is.behind_is

    pub same_change : change_of_write now w bytes ≡ stamped now (write f.number offset bytes)
    same_change = ap (λ (k : ℕ). stamped now (write k w.offset bytes)) is.number_is ∙ ap (λ (k : ℕ). stamped now (write f.number k bytes)) is.offset_is

    -- all that a write comes to, said of the file's number and the place
    pub written_all : (outcome : Outcome) (after : ℕ → Option Description) → IsMounted (applied (stamped now (write f.number offset bytes)) v) after
        → outcome (Wrote (length bytes)) (tree_of (applied (stamped now (write f.number offset bytes)) v) after) (logs (work_of v (stamped now (write f.number offset bytes))))
        → GoesOver limits v (table_of table) (change_of_write now w bytes) × IsMounted (applied (change_of_write now w bytes) v) after
        × outcome (Wrote (length bytes)) (tree_of (applied (change_of_write now w bytes) v) after) (logs (work_of v (change_of_write now w bytes)))
    written_all outcome after mounted done =
        subst
        (λ (x : Change).
        GoesOver limits v (table_of table) x × IsMounted (applied x v) after × outcome (Wrote (length bytes)) (tree_of (applied x v) after) (logs (work_of v x)))
        (sym same_change) (over, mounted, done)

  -- ---- at the descriptor's place

  abbrev place : ℕ
  place = write_place f

  abbrev place_in : Description → ℕ
  place_in d = if d.appends then length (contents t d.number) else d.offset

  same_place : place ≡ place_in (description_of f)
  same_place = ap (λ (s : ℕ). if f.appends then s else f.offset) (sym size_now)

  abbrev putting : Description → Outcome
  putting d = puts limits now t d.number (place_in d) bytes (with_offset fd d (place_in d + length bytes))

  pub write_told : (r : Result (Option Writing) Errno) → PassesOpen (write_tests (is_too_many (length bytes))) table fd (Ok f) → PutsFile limits now v (table_of table) f place bytes r
      → WritesFile (writes limits now t fd bytes) limits now v table bytes (λ w. moved_to fd w.behind (table_of table)) r
  write_told (Err errno) opened put =
      open_passes table v fd (write_tests (is_too_many (length bytes))) putting f (Refused errno) t nothing opened
      (subst (λ (p : ℕ). puts limits now t f.number p bytes (with_offset fd (description_of f) (p + length bytes)) (Refused errno) t nothing) same_place (put (with_offset fd (description_of f) (place + length bytes))))
  write_told (Ok None) opened put =
      open_passes table v fd (write_tests (is_too_many (length bytes))) putting f (Wrote 0) t nothing opened
      (subst (λ (p : ℕ). puts limits now t f.number p bytes (with_offset fd (description_of f) (p + length bytes)) (Wrote 0) t nothing) same_place (put (with_offset fd (description_of f) (place + length bytes))))
  write_told (Ok (Some w)) opened (is, (over, put)) =
      written_all place w.written is over (writes limits now t fd bytes) (moved_to fd w.written.behind (table_of table)) (mounted_moved (table_of table) fd w.written.behind new w.written.behind_within over.1)
      (open_passes table v fd (write_tests (is_too_many (length bytes))) putting f (Wrote (length bytes)) (tree_of new (moved_to fd w.written.behind (table_of table))) (logs (work_of v change)) opened
      (subst (λ (p : ℕ). puts limits now t f.number p bytes (with_offset fd (description_of f) (p + length bytes)) (Wrote (length bytes)) (tree_of new (moved_to fd w.written.behind (table_of table))) (logs (work_of v change))) same_place
      (subst (λ (s : Tree). puts limits now t f.number place bytes (with_offset fd (description_of f) (place + length bytes)) (Wrote (length bytes)) s (logs (work_of v change))) tree_is (put (with_offset fd (description_of f) (place + length bytes))))))
    where
      change : Change
      change = stamped now (write f.number place bytes)

      new : Volume
      new = applied (stamped now (write f.number place bytes)) v

      tree_is : with_offset fd (description_of f) (place + length bytes) (tree_of new (table_of table)) ≡ tree_of new (moved_to fd w.written.behind (table_of table))
      tree_is = ap (λ (p : ℕ). with_offset fd (description_of f) p (tree_of new (table_of table))) (sym (behind_is place w.written is over)) ∙ moved_in_tree (table_of table) fd w.written.behind new (description_of f) (ap (option_map description_of) some)

  -- ---- at an offset

  pub pwrite_told : (offset : ℤ) (r : Result (Option Writing) Errno) → PassesOpen (write_tests (is_negative offset || is_too_many (length bytes))) table fd (Ok f)
      → PutsFile limits now v (table_of table) f (nat_abs offset) bytes r → WritesFile (writes_to limits now t fd offset bytes) limits now v table bytes (λ w. table_of table) r
  pwrite_told offset (Err errno) opened put =
      open_passes table v fd (write_tests (is_negative offset || is_too_many (length bytes))) (λ d. puts limits now t d.number (nat_abs offset) bytes (λ after. after)) f (Refused errno) t nothing opened (put (λ after. after))
  pwrite_told offset (Ok None) opened put =
      open_passes table v fd (write_tests (is_negative offset || is_too_many (length bytes))) (λ d. puts limits now t d.number (nat_abs offset) bytes (λ after. after)) f (Wrote 0) t nothing opened (put (λ after. after))
  pwrite_told offset (Ok (Some w)) opened (is, (over, put)) =
      written_all (nat_abs offset) w.written is over (writes_to limits now t fd offset bytes) (table_of table) over.1
      (open_passes table v fd (write_tests (is_negative offset || is_too_many (length bytes))) (λ d. puts limits now t d.number (nat_abs offset) bytes (λ after. after)) f (Wrote (length bytes))
      (tree_of (applied (stamped now (write f.number (nat_abs offset) bytes)) v) (table_of table)) (logs (work_of v (stamped now (write f.number (nat_abs offset) bytes)))) opened (put (λ after. after)))

-- ---- a write through a descriptor

-- so bytes are put into an open file
abbrev Puts : {B : Type 0} → Option Time → Ghosts B → B → InodeFile → OpenFile → ℕ → List ℕ → Result (Result (Option Writing) Errno) BlockError → Type 0
Puts now G a s f offset bytes x = OnMounted G a s (λ v opened. IsFileOf v f → IfOk x (PutsFile (limits_of s.geometry) now v opened f offset bytes))

module _ {B : Type 0} {now : Option Time} {G : Ghosts B} {a b : B} {s t : InodeFile} {n : ℕ} (f : OpenFile) (offset : ℕ) (bytes : List ℕ) (same : n ≡ f.number) where
  -- nothing is put into the file of a number, for its size or a block that wasn't read
  pub put_failed : (e : Failure) (q : Result (Option Writing) Failure) → IsErrAnd q (λ g. g ≡ e) → Looks {T = Result (Option Prepared) Errno} G IsFault a b s t (read_outcome (Err e))
      → IfOk (read_outcome {T = Option Prepared} (Err e)) (λ r. IfErr r (λ k. k ≡ EFBIG)) → NeverDamaged {T = Result (Option Prepared) Errno} G a s (read_outcome (Err e))
      → OnMounted G a s (λ v opened. is_file_node (v n) ≡ true → IfOk (read_outcome (Err e)) (PutsBytes (limits_of s.geometry) now v opened n offset bytes))
      → PreparesTold (of_writing now bytes) (IsTransfer bytes) now G a b s t (Puts now G a s f offset bytes) q
  put_failed (failures.Refused e) q is looks big sound put =
      carried (PreparesTold (of_writing now bytes) (IsTransfer bytes) now G a b s t (Puts now G a s f offset bytes)) q is
      (refuses looks (subst (λ (k : Errno). IsTrue (is_path_refusal k)) (sym big) refl) (λ disk settled v opened stands volume mounted is.
      at_file v f (λ k. PutsBytes (limits_of s.geometry) now v opened k offset bytes (Err e)) same is (put disk settled v opened stands volume mounted)))
  put_failed (failures.Read e) q is looks big sound put =
      carried (PreparesTold (of_writing now bytes) (IsTransfer bytes) now G a b s t (Puts now G a s f offset bytes)) q is (stops looks sound (λ disk settled v opened stands volume mounted is. tt))

module _ {B : Type 0} {now : Option Time} {G : Ghosts B} {a b : B} {s t : InodeFile} {r : Result (Option Writing) Failure} (table : Descriptors) (fd : ℕ) (f : OpenFile) (offset : ℕ) (bytes : List ℕ) where
  -- what is put into the file of a descriptor is a write
  pub written_through : {P : Volume → Result (Option Writing) Errno → Type 0} → open_at table fd ≡ Some f
      → PreparesTold (of_writing now bytes) (IsTransfer bytes) now G a b s t (Puts now G a s f offset bytes) r
      → OnOpen G a s table (λ v. (y : Result (Option Writing) Errno) → PutsFile (limits_of s.geometry) now v (table_of table) f offset bytes y → P v y)
      → PreparesOpen (of_writing now bytes) (IsWrite table fd bytes) now G a b s t table P r
  written_through some put gives = record {
    looks = put.looks;
    own = put.own;
    within = IfOk-weaker r _ _ opened_too put.within;
    ready = put.ready;
    timed = put.timed;
    does = put.does;
    answers = λ disk settled v stands volume mounted fits.
        IfOk-weaker (read_outcome r) _ _ (gives disk settled v stands volume mounted fits) (put.answers disk settled v (table_of table) stands volume mounted (fits.files fd f some));
    damaged = put.damaged;
  }
    where
      here : table_of table fd ≡ Some (description_of f)
      here = ap (option_map description_of) some

      opened_too : (o : Option Writing) → IsTransfer bytes o → IsWrite table fd bytes o
      opened_too None within = tt
      opened_too (Some w) (one, few) = (one, few, subst IsSome (sym here) refl)
