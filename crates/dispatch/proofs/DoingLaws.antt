-- What a call is to do, from what is prepared for it.
use Rattle.std.proofs.Common.{◌≡◌, ℕ, ℤ, Bool, false, true, List, Option, Some, None, Result, Ok, Err, refl, sym, subst}
use Rattle.std.specs.Prelude.{IfOk, IfSome, IsFalse}
use Rattle.std.specs.Result.{IsErrAnd}
use Rattle.std.proofs.Math.Path.{fun_ext}
use Rattle.model.specs.declared.limits.Limits.{Limits}
use Rattle.layout.specs.StateLimits.{limits_of}
use Rattle.layout.specs.Record.{Change}
use Rattle.model.specs.Descriptors.{opens, stores, writes_to}
use Rattle.model.specs.Outcomes.{Outcome}
use Rattle.model.specs.Records.{applied, work_of}
use Rattle.model.specs.Replies.{IsReplyTo}
use Rattle.model.specs.Room.{Need, logs, nothing}
use Rattle.model.specs.declared.session.Session.{Session}
use Rattle.model.specs.Sessions.{call_time, kept_time, new_permissions}
use Rattle.model.specs.Steps.{calls, is_reading_call}
use Rattle.model.specs.Trees.{Description}
use Rattle.model.specs.Volumes.{IsMounted, Volume, swept, tree_of}
use Rattle.model.specs.declared.command.Command.{Command}
use Rattle.model.specs.declared.command.Command.TheVariants as command
use Rattle.model.specs.declared.command.Flags.{Flags}
use Rattle.model.specs.declared.command.PathCall.{PathCall}
use Rattle.model.specs.declared.errno.Errno.{Errno}
use Rattle.model.specs.declared.reply.Reply.{Reply}
use Rattle.model.specs.declared.reply.Reply.TheVariants.{Done, Refused}
use Rattle.model.specs.declared.time.Time.{Time}
use Rattle.buffers.specs.declared.blocks.Blocks.{Ghosts}
use Rattle.inofile.specs.declared.inode_file.InodeFile.{InodeFile}
use Rattle.records.specs.Prepared.{Does, IsReady}
use Rattle.records.specs.Rewriting.{GoesOver}
use Rattle.records.specs.declared.prepared.Prepared.{Prepared}
use Rattle.records.specs.declared.failure.Failure.{Failure}
use Rattle.records.specs.declared.failure.Failure.TheVariants as failures
use Rattle.calls.specs.Changing.{ComesOrStays, change_by}
use Rattle.calls.specs.Preparing.{Answer, IsTimed, PreparesAny}
use Rattle.calls.specs.Store.{IsTransfer, PreparesStoring, StoresFile, change_of_store}
use Rattle.calls.specs.declared.preparing.store.Storing.{Storing}
use Rattle.calls.proofs.PrepareSteps.{carried}
use Rattle.calls.specs.declared.changed.Changing.{Changing}
use Rattle.descriptors.specs.Tables.{table_of}
use Rattle.descriptors.specs.declared.table.Descriptors.{Descriptors}
use Rattle.files.specs.Opened.{tree_with}
use Rattle.files.specs.Opening.{OpensDescriptorOver, opening_reply, with_opened}
use Rattle.files.specs.Preparing.{Changes, PreparesOpen}
use Rattle.files.specs.Writing.{WritesFile}
use Rattle.files.specs.declared.opening.Opening.{Opening}
use Rattle.files.specs.declared.written.Writing.{Writing}
use Rattle.files.proofs.Preparing.{grants, refuses, stops}
use Rattle.dispatch.specs.Changing.{CallComes, is_writing_call}
use Rattle.dispatch.specs.OpenFiles.{FitsMove, WouldLead, moved_table}
use Rattle.dispatch.specs.Preparing.{DoesBeside, DoesCall, KeepsRecord, MayDo, PreparesCall, logged_by, of_prepared, opening_call, said_change}
use Rattle.dispatch.specs.Serving.{IsAccepted}
use Rattle.dispatch.specs.declared.prepared_call.PreparedCall.{PreparedCall}
use Rattle.dispatch.specs.declared.prepared_call.PreparedChange.{PreparedChange}
use Rattle.dispatch.specs.declared.table_move.TableMove.{TableMove}
use Rattle.dispatch.specs.declared.table_move.TableMove.TheVariants.{Opens, Stays}
use Rattle.dispatch.proofs.ServingLaws.{done_is_reply}

-- a record that applies and needs no sweep
pub goes_beside : (limits : Limits) (said : Session) (v : Volume) (table : ℕ → Option Description) (call : Command) (reply : Reply) (move : TableMove) (c : PreparedChange)
    → GoesOver limits v table (logged_by c) → ((w : Volume) → FitsMove w move)
    → WouldLead limits said v table call reply (applied (logged_by c) v) (moved_table move table) (logs (work_of v (logged_by c))) → DoesBeside limits said v table call reply move (Some c)
goes_beside limits said v table call reply move c goes fits told =
    let w = applied (logged_by c) v in
    let same : w ≡ swept table w = sym (fun_ext {f = swept table w} {g = w} goes.1.is_swept) in (
      goes.0,
      subst (λ (x : Volume). IsMounted x table) same goes.1,
      fits (swept table w),
      subst (λ (x : Volume). WouldLead limits said v table call reply x (moved_table move table) (logs (work_of v (logged_by c)))) same told,
    )

module _ {B T : Type 0} {changes : Changes T} {W : T → Type 0} {G : Ghosts B} {a b : B} {s t : InodeFile} (said : Session) {files : Descriptors} {answer : Volume → Result T Errno → Type 0} (call : Command) where
  -- it isn't refused
  pub does : {now : Option Time} {x : T} {d : PreparedCall} → now ≡ kept_time (limits_of s.geometry) said.time → PreparesOpen changes W now G a b s t files answer (Ok x) → (W x → MayDo s.geometry.inodes files call d)
      → ((P : Prepared → Change → Type 0) → changes x P → of_prepared d P) → ((v : Volume) → answer v (Ok x) → DoesCall (limits_of s.geometry) said v (table_of files) call (Ok d))
      → PreparesCall G a b s t said files call (Ok d)
  does {x = x} is told may changed leads =
      grants told.looks (may told.within) (changed (λ p change. IsReady t p) told.ready) (changed (λ p change. IsTimed (kept_time (limits_of s.geometry) said.time) change) (subst (λ (n : Option Time). changes x (λ p change. IsTimed n change)) is told.timed)) (λ disk settled v stands. changed (λ p change. Does disk settled t v p change) (told.does disk settled v stands))
      (λ disk settled v stands volume mounted fits. leads v (told.answers disk settled v stands volume mounted fits))

-- what a write at an offset comes to
pub writes_at : (limits : Limits) (now : Option Time) (v : Volume) (files : Descriptors) (fd : ℕ) (bytes : List ℕ) (r : Result (Option Writing) Errno) {offset place : ℤ} → offset ≡ place
    → WritesFile (writes_to limits now (tree_with files v) fd offset bytes) limits now v files bytes (λ w. table_of files) r → WritesFile (writes_to limits now (tree_with files v) fd place bytes) limits now v files bytes (λ w. table_of files) r
writes_at limits now v files fd bytes r is told = subst (λ (z : ℤ). WritesFile (writes_to limits now (tree_with files v) fd z bytes) limits now v files bytes (λ w. table_of files) r) is told

-- ---- a change whose record says what it does

pub said_so : (o : Option Changing) (P : Prepared → Change → Type 0) → IfSome o (λ c. P c.prepared (change_by c)) → IfSome (said_change o) (λ c. P c.prepared (logged_by c))
said_so None P is = tt
said_so (Some c) P is = is

pub said_within : (o : Option Changing) → IfSome (said_change o) (λ c. KeepsRecord c.record)
said_within None = tt
said_within (Some c) = tt

-- a call that is answered by this reply where its record, if it has one, does what it does
pub comes_so : (limits : Limits) (said : Session) (v : Volume) (table : ℕ → Option Description) (call : Command) (outcome : Outcome) (o : Option Changing)
    → ((reply : Reply) (w : Volume) (need : Need) → outcome reply (tree_of w table) need → WouldLead limits said v table call reply w table need)
    → ComesOrStays outcome limits v table (Ok o) → DoesBeside limits said v table call Done Stays (said_change o)
comes_so limits said v table call outcome None leads told = (tt, leads Done v nothing told)
comes_so limits said v table call outcome (Some c) leads told =
    (told.0, told.1, tt, leads Done (swept table (applied (change_by c) v)) (logs (work_of v (change_by c))) told.2)

-- ---- a file that is opened

module _ (path : List ℕ) (flags : Flags) (mode below : ℕ) where
  -- what `open` and `openstat` come to is what they lead to
  pub opens_leads : (limits : Limits) (said : Session) (v : Volume) (table : ℕ → Option Description) (tells : Bool) (reply : Reply) (w : Volume) (after : ℕ → Option Description) (need : Need)
      → opens tells below limits (call_time limits said) (tree_of v table) path flags (new_permissions limits said mode) reply (tree_of w after) need → WouldLead limits said v table (opening_call tells path flags mode below) reply w after need
  opens_leads limits said v table false reply w after need told snapshots room = (told, refl)
  opens_leads limits said v table true reply w after need told snapshots room = (told, refl)

  pub opening_kind : (tells : Bool) (o : Opening) → IsReplyTo (opening_call tells path flags mode below) (opening_reply tells o)
  opening_kind false o = tt
  opening_kind true o = tt

  pub opens_so : (limits : Limits) (said : Session) (v : Volume) (files : Descriptors) (tells : Bool) (o : Opening) (c : Option Changing)
      → OpensDescriptorOver (λ t. opens t below limits (call_time limits said) (tree_with files v) path flags (new_permissions limits said mode)) limits v files o c
      → DoesBeside limits said v (table_of files) (opening_call tells path flags mode below) (opening_reply tells o) (Opens o.fd o.file) (said_change c)
  opens_so limits said v files tells o None told = (told.0, opens_leads limits said v (table_of files) tells (opening_reply tells o) v (with_opened o files) nothing (told.1 tells))
  opens_so limits said v files tells o (Some c) told =
      let w = swept (table_of files) (applied (change_by c) v) in (
        told.0,
        told.1,
        told.2,
        opens_leads limits said v (table_of files) tells (opening_reply tells o) w (with_opened o files) (logs (work_of v (change_by c))) (told.3 tells),
      )

pub opening_accepted : (tells : Bool) (o : Opening) → IsAccepted (opening_reply tells o)
opening_accepted false o errno is = cc
opening_accepted true o errno is = cc

-- ---- a call by a path

pub path_leads : (call : PathCall) (limits : Limits) (said : Session) (v : Volume) (table : ℕ → Option Description) (reply : Reply) (w : Volume) (need : Need) → calls limits said (tree_of v table) call reply (tree_of w table) need
    → WouldLead limits said v table (command.Path call) reply w table need
path_leads call limits said v table reply w need told snapshots room = (told, refl)

module _ {B : Type 0} {G : Ghosts B} {a b : B} {s t : InodeFile} (said : Session) (call : PathCall) where
  -- it isn't refused
  pub path_done : {now : Option Time} → now ≡ kept_time (limits_of s.geometry) said.time → IsFalse (is_reading_call call) → IsFalse (is_writing_call call) → (o : Option Changing) → PreparesAny now G a b s t (CallComes said call) (Ok o) → (files : Descriptors)
      → PreparesCall G a b s t said files (command.Path call) (Ok (record { reply = Done; change = said_change o; table = Stays }))
  path_done is changes writes o told files =
      grants told.looks (record { kind = done_is_reply call changes writes; accepted = λ errno is. cc; moves = tt; numbered = tt; limits = said_within o }) (said_so o (λ p change. IsReady t p) told.ready)
      (said_so o (λ p change. IsTimed (kept_time (limits_of s.geometry) said.time) change) (subst (λ (n : Option Time). IfSome o (λ c. IsTimed n (change_by c))) is told.timed))
      (λ disk settled v stands. said_so o (λ p change. Does disk settled t v p change) (told.does disk settled v stands))
      (λ disk settled v stands volume mounted fits.
      comes_so (limits_of s.geometry) said v (table_of files) (command.Path call) (calls (limits_of s.geometry) said (tree_of v (table_of files)) call) o (path_leads call (limits_of s.geometry) said v (table_of files))
      (told.answers disk settled v (table_of files) stands volume mounted))

  -- it is
  pub path_refused : {now : Option Time} → (f : Failure) (q : Result PreparedCall Failure) → IsErrAnd q (λ g. g ≡ f) → PreparesAny now G a b s t (CallComes said call) (Err f) → (files : Descriptors)
      → PreparesCall G a b s t said files (command.Path call) q
  path_refused (failures.Refused errno) q is told files = carried (PreparesCall G a b s t said files (command.Path call)) q is
      (refuses told.looks told.own (λ disk settled v stands volume mounted fits.
      path_leads call (limits_of s.geometry) said v (table_of files) (Refused errno) v nothing
      (told.answers disk settled v (table_of files) stands volume mounted)))
  path_refused (failures.Read e) q is told files = carried (PreparesCall G a b s t said files (command.Path call)) q is
      (stops told.looks told.damaged (λ disk settled v stands volume mounted fits. tt))

-- ---- bytes that go to a file over a path

-- what is prepared of them, if there are any
abbrev pub of_storing : Option Time → List ℕ → Changes (Option Storing)
of_storing now bytes o P = IfSome o (λ w. P w.prepared (change_of_store now w bytes))

-- they are prepared for this time
stored_then : (now : Option Time) (bytes : List ℕ) (r : Result (Option Storing) Failure) → IfOk r (λ o. of_storing now bytes o (λ p change. IsTimed now change))
stored_then now bytes (Ok None) = tt
stored_then now bytes (Ok (Some w)) = (refl, tt)
stored_then now bytes (Err f) = tt

-- as a call that is prepared beside a table of open files
pub stores_beside : {B : Type 0} {now : Option Time} {G : Ghosts B} {a b : B} {s t : InodeFile} {bytes : List ℕ} {answer : Answer (Option Storing)} {r : Result (Option Storing) Failure} → PreparesStoring now bytes G a b s t answer r → (files : Descriptors)
    → PreparesOpen (of_storing now bytes) (IsTransfer bytes) now G a b s t files (λ v. answer (limits_of s.geometry) v (table_of files)) r
stores_beside {now = now} {bytes = bytes} {r = r} told files = record {
  looks = told.looks;
  own = told.own;
  within = told.within;
  ready = told.ready;
  timed = stored_then now bytes r;
  does = told.does;
  answers = λ disk settled v stands volume mounted fits. told.answers disk settled v (table_of files) stands volume mounted;
  damaged = told.damaged;
}

-- an offset as a number
pub stores_at : (limits : Limits) (now : Option Time) (v : Volume) (table : ℕ → Option Description) (path bytes : List ℕ) (r : Result (Option Storing) Errno) {offset place : ℤ} → offset ≡ place
    → StoresFile (stores limits now (tree_of v table) path offset bytes) limits now v table bytes r → StoresFile (stores limits now (tree_of v table) path place bytes) limits now v table bytes r
stores_at limits now v table path bytes r is told = subst (λ (z : ℤ). StoresFile (stores limits now (tree_of v table) path z bytes) limits now v table bytes r) is told
