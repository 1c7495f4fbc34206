-- What a call on descriptors comes to on a system that shows a state.
use Rattle.std.proofs.Common.{◌≡◌, ℕ, Bool, List, Option, Some, Result, Err, ap, arith, sym, subst, ◌∙◌}
use Rattle.std.specs.Prelude.{IfSome, IsFalse, IsTrue}
use Rattle.model.specs.declared.limits.Limits.{Limits}
use Rattle.layout.specs.StateLimits.{limits_of}
use Rattle.station.specs.Moments.{Meaning}
use Rattle.station.specs.declared.station.Station.{Ghosts}
use Rattle.layout.specs.Record.{Change, FitsAttributes, FitsTime, IsChange}
use Rattle.layout.proofs.TimeLaws.{now_fits, time_kept}
use Rattle.model.specs.Circumstances.{IsSure}
use Rattle.model.specs.Paths.{Name}
use Rattle.model.specs.Records.{Applies, applied, work_of}
use Rattle.model.specs.Room.{nothing, logs}
use Rattle.model.specs.declared.session.Session.{Session}
use Rattle.model.specs.Sessions.{kept_time}
use Rattle.model.specs.States.{State}
use Rattle.model.specs.Trees.{Description, Tree}
use Rattle.model.specs.Volumes.{Volume, IsMounted, swept}
use Rattle.model.specs.declared.command.Command.{Command}
use Rattle.model.specs.declared.command.Command.TheVariants as command
use Rattle.model.specs.declared.errno.Errno.{Errno}
use Rattle.model.specs.declared.reply.Reply.{Reply}
use Rattle.model.specs.declared.reply.Reply.TheVariants.{Refused}
use Rattle.buffers.specs.declared.blocks.Blocks as blocks
use Rattle.images.specs.Roots.{whole}
use Rattle.inofile.specs.declared.inode_file.InodeFile.{InodeFile}
use Rattle.loading.specs.Images.{inodes_of}
use Rattle.records.specs.Prepared.{Does}
use Rattle.records.specs.declared.failure.Failure.{Failure}
use Rattle.descriptors.specs.Fits.{FitsVolume}
use Rattle.descriptors.specs.Tables.{table_of}
use Rattle.descriptors.specs.declared.table.Descriptors.{Descriptors}
use Rattle.calls.proofs.AttributeLaws.{kept_where}
use Rattle.calls.specs.Preparing.{IsTimed}
use Rattle.dispatch.specs.Answering.{IsAnswered}
use Rattle.dispatch.specs.OpenFiles.{FitsMove, WouldLead, is_looking_call, is_table_call, moved_table}
use Rattle.dispatch.specs.Preparing.{DoesBeside, DoesCall, DoesRecord, IsPreparedAt, PreparesCall, logged_by, only_looks, recorded}
use Rattle.dispatch.specs.Serving.{WouldCall}
use Rattle.dispatch.specs.Showing.{IsShowing, ShowsState}
use Rattle.system.specs.Logging.{Advances}
use Rattle.system.specs.Systems.{Parts, IsServingWith, state_with}
use Rattle.dispatch.specs.declared.prepared_call.PreparedCall.{PreparedCall}
use Rattle.dispatch.specs.declared.prepared_call.PreparedChange.{PreparedChange}
use Rattle.system.specs.declared.system.System.{System}
use Rattle.dispatch.specs.declared.table_move.TableMove.{TableMove}
use Rattle.dispatch.proofs.MovedLaws.{led}
use Rattle.dispatch.proofs.ServingLaws.{NotSure}
use Rattle.dispatch.proofs.ShowingLaws.{StandsStill, moved_shown}

-- ---- which calls are always answered

pub table_sure : (s : State) (call : Command) → IsTrue (is_table_call call) → IsSure s call
table_sure s (command.Lseek fd whence offset) is = tt
table_sure s (command.Fsync fd) is = tt
table_sure s _ is = cc

pub looking_not_sure : {S : Type 0} {G : Ghosts S} (f : System S G) (call : Command) → IsTrue (is_looking_call call) → NotSure f call
looking_not_sure f (command.Read fd count) is = (λ s shown sure. sure, λ once. once)
looking_not_sure f (command.Pread fd offset count) is = (λ s shown sure. sure, λ once. once)
looking_not_sure f (command.Fstat fd) is = (λ s shown sure. sure, λ once. once)
looking_not_sure f (command.Fattr fd) is = (λ s shown sure. sure, λ once. once)
looking_not_sure f _ is = cc

pub changing_not_sure : {S : Type 0} {G : Ghosts S} (f : System S G) (call : Command) → IsFalse (only_looks call) → NotSure f call
changing_not_sure f (command.Path call) is = (λ s shown sure. sure, λ once. once)
changing_not_sure f (command.Open path flags mode below) is = (λ s shown sure. sure, λ once. once)
changing_not_sure f (command.OpenStat path flags mode below) is = (λ s shown sure. sure, λ once. once)
changing_not_sure f (command.Write fd given) is = (λ s shown sure. sure, λ once. once)
changing_not_sure f (command.Pwrite fd offset given) is = (λ s shown sure. sure, λ once. once)
changing_not_sure f (command.Ftruncate fd size) is = (λ s shown sure. sure, λ once. once)
changing_not_sure f (command.Fchmod fd mode) is = (λ s shown sure. sure, λ once. once)
changing_not_sure f (command.Fchown fd owner group) is = (λ s shown sure. sure, λ once. once)
changing_not_sure f (command.Futimens fd time) is = (λ s shown sure. sure, λ once. once)
changing_not_sure f _ is = cc

-- ---- calls that log nothing

module _ {m : Meaning} {k : Parts} {table : ℕ → Option Description} {s : State} (shown : IsShowing m k table s) where
  -- what is told of a system's volume and its open files is told of the state that it shows
  pub led_to : (call : Command) (reply : Reply) (after : ℕ → Option Description) → WouldLead (limits_of k.root.geometry) k.session shown.running (table_of k.files) call reply shown.running after nothing
      → WouldCall s call reply (state_with (limits_of k.root.geometry) k.session shown.running after shown.snapshots) nothing
  led_to call reply after told =
      let limits = limits_of k.root.geometry in
      let is = shown.state ∙ ap (λ (t : ℕ → Option Description). state_with limits k.session shown.running t shown.snapshots) shown.opened in
      subst (λ (u : State). WouldCall u call reply (state_with limits k.session shown.running after shown.snapshots) nothing) (sym is) (told shown.snapshots)

  -- a refusal
  pub refused_to : (call : Command) (errno : Errno) → DoesCall (limits_of k.root.geometry) k.session shown.running (table_of k.files) call (Err errno) → WouldCall s call (Refused errno) s nothing
  refused_to call errno told =
      let limits = limits_of k.root.geometry in
      let same : state_with limits k.session shown.running (table_of k.files) shown.snapshots ≡ s = sym (shown.state ∙ ap (λ (t : ℕ → Option Description). state_with limits k.session shown.running t shown.snapshots) shown.opened) in
      subst (λ (u : State). WouldCall s call (Refused errno) u nothing) same (led_to call (Refused errno) (table_of k.files) told)

-- a call that leaves the image as it is, and perhaps another table of open files
pub table_leads : {S : Type 0} {G : Ghosts S} (f new : System S G) {s : State} (shown : ShowsState f s) (call : Command) (reply : Reply) → new.session ≡ f.session → StandsStill f new.inodes shown
    → (after : ℕ → Option Description) → after ≡ table_of new.files → FitsVolume new.files shown.running → IsMounted shown.running after
    → WouldLead (limits_of f.root.geometry) f.session shown.running (table_of f.files) call reply shown.running after nothing → IsAnswered f new shown call reply
table_leads f new shown call reply said stands after opened fits mounted told = record {
  next = state_with (limits_of f.root.geometry) f.session shown.running after shown.snapshots;
  step = λ room stored. led_to shown call reply after told room;
  shows = moved_shown f new shown stands said after opened fits mounted;
}

-- ---- calls that are prepared

-- What is told of a call whose record is to be logged, or to wait, by a system that shows a state.
pub record IsLogged {m : Meaning} {k : Parts} {table : ℕ → Option Description} {s : State} (shown : IsShowing m k table s) (call : Command) (reply : Reply) (move : TableMove) (change : Change) : Type 0 where
  pub applies : Applies (limits_of k.root.geometry) shown.running change
  pub mounted : IsMounted (swept table (applied change shown.running)) table
  pub fits : FitsMove (swept table (applied change shown.running)) move
  pub step : WouldCall s call reply (state_with (limits_of k.root.geometry) k.session (swept table (applied change shown.running)) (moved_table move table) shown.snapshots) (logs (work_of shown.running change))

module _ {m : Meaning} {k : Parts} {table : ℕ → Option Description} {s : State} (shown : IsShowing m k table s) {disk : ℕ → List ℕ} (call : Command) (p : PreparedCall) (c : PreparedChange) (change : Change)
    (some : p.change ≡ Some c) (says : change ≡ logged_by c) (prepared : IsPreparedAt k disk shown.running call p) where
  pub told_logged : IsLogged shown call p.reply p.table change
  told_logged =
      let v = shown.running in
      let limits = limits_of k.root.geometry in
      let with_files : DoesBeside limits k.session v (table_of k.files) call p.reply p.table (Some c) = subst (λ (o : Option PreparedChange). DoesBeside limits k.session v (table_of k.files) call p.reply p.table o) some prepared.comes in
      let of_record = subst (λ (t : ℕ → Option Description). DoesRecord limits k.session v t call p.reply p.table (logged_by c)) (sym shown.opened) with_files in
      let here = subst (DoesRecord limits k.session v table call p.reply p.table) (sym says) of_record in
      record {
        applies = here.0;
        mounted = here.1;
        fits = here.2;
        step = subst (λ (u : State). WouldCall u call p.reply (state_with limits k.session (swept table (applied change v)) (moved_table p.table table) shown.snapshots) (logs (work_of v change))) (sym shown.state) (here.3 shown.snapshots);
      }

  -- put in force, its change does what the record says
  pub does_change : Does disk (inodes_of (whole disk k.root).active) k.inodes shown.running c.prepared change
  does_change =
      let settled = inodes_of (whole disk k.root).active in
      subst (Does disk settled k.inodes shown.running c.prepared) (sym says)
      (subst (λ (o : Option PreparedChange). IfSome o (λ c. Does disk settled k.inodes shown.running c.prepared (logged_by c))) some prepared.does)

  -- and it applies
  pub may_advance : ((has_attributes : Bool) → FitsTime has_attributes c.time → FitsAttributes has_attributes (recorded c.record) → IsChange has_attributes change) → Advances (limits_of k.root.geometry) shown.running table change
  may_advance is =
      let limits = limits_of k.root.geometry in
      let timed = subst (λ (o : Option PreparedChange). IfSome o (λ c. IsTimed (kept_time limits k.session.time) (logged_by c))) some prepared.timed in
      let keeps = now_fits k.root.geometry k.session.time prepared.said.time in record {
        is = is limits.has_attributes (subst (FitsTime limits.has_attributes) (sym timed.0) keeps)
            (subst (λ (b : Bool). FitsAttributes b (recorded c.record)) (kept_where limits.has_attributes (kept_time limits k.session.time) (time_kept k.root.geometry.layout (kept_time limits k.session.time) keeps)) timed.1);
        applies = told_logged.applies;
        mounted = told_logged.mounted;
      }

-- behind a record, with another table of open files
pub moved_on : {m : Meaning} {k : Parts} {table : ℕ → Option Description} (limits : Limits) (said : Session) {v : Volume} (snapshots : List (Name × Tree)) {changes : List Change}
    (behind : IsServingWith m k table (state_with limits said v table snapshots) v changes) (now_files : Descriptors) (after : ℕ → Option Description)
    → after ≡ table_of now_files → FitsVolume now_files v → IsMounted v after → IsServingWith m (record k { files = now_files }) after (state_with limits said v after snapshots) v changes
moved_on {k = k} limits said {v} snapshots behind now_files after opened fits mounted =
    let serves = behind.serves in
    record {
      serves = led serves k.inodes now_files k.session serves.running after (state_with limits said v after snapshots) (λ last extends. extends) serves.memory (omega arith)
          (subst (λ (w : Volume). IsMounted w after) (sym behind.volume) mounted) opened (subst (λ (w : Volume). FitsVolume now_files w) (sym behind.volume) fits)
          (ap (λ (u : State). record u { tree = record u.tree { descriptors = after } }) serves.state);
      volume = behind.volume;
      records = behind.records;
    }

-- ---- what the calls over memory and the table promise

-- a call that was asked in these words
pub asked_so : {B : Type 0} {G : blocks.Ghosts B} {a b : B} {s t : InodeFile} (said : Session) {files : Descriptors} (call asked : Command) (r : Result PreparedCall Failure) → call ≡ asked
    → PreparesCall G a b s t said files asked r → PreparesCall G a b s t said files call r
asked_so {G = G} {a = a} {b = b} {s = s} {t = t} said {files = files} call asked r is told = subst (λ (k : Command). PreparesCall G a b s t said files k r) (sym is) told
