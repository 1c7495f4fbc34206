-- A call that was prepared on a system, at the state that this shows.
use Rattle.std.proofs.Common.{◌≡◌, ◌∙◌, ℕ, List, Option, Result, Ok, Err, ap, refl, subst, sym}
use Rattle.std.specs.Prelude.{IfErr, IfOk, IfSome}
use Rattle.layout.specs.StateLimits.{limits_of}
use Rattle.station.specs.declared.station.Station.{Ghosts}
use Rattle.layout.specs.Limits.{Sizes}
use Rattle.layout.specs.Places.{blocks_of}
use Rattle.layout.specs.declared.root.Root.{Root}
use Rattle.model.specs.declared.session.Session.{Session}
use Rattle.model.specs.Sessions.{IsSession, kept_time}
use Rattle.model.specs.States.{State}
use Rattle.model.specs.Trees.{Description}
use Rattle.model.specs.declared.command.Command.{Command}
use Rattle.model.specs.declared.reply.Reply.TheVariants.{Refused}
use Rattle.buffers.specs.declared.blocks.Blocks as blocks
use Rattle.buffers.specs.declared.error.BlockError.TheVariants.{NoMemory}
use Rattle.inofile.specs.declared.inode_file.InodeFile.{InodeFile}
use Rattle.descriptors.specs.declared.table.Descriptors.{Descriptors}
use Rattle.descriptors.specs.Tables.{table_of}
use Rattle.files.specs.Opened.{OnOpen}
use Rattle.images.specs.Roots.{whole}
use Rattle.loading.specs.Images.{inodes_of}
use Rattle.records.specs.Failures.{read_outcome}
use Rattle.records.specs.Prepared.{Does, IsReady}
use Rattle.records.specs.declared.failure.Failure.{Failure}
use Rattle.records.specs.declared.failure.Failure.TheVariants as failures
use Rattle.system.specs.Ahead.{HasStateAhead}
use Rattle.system.specs.Systems.{Parts, blocks_with, disk_of, system_parts}
use Rattle.system.specs.Waits.{Waits}
use Rattle.system.specs.declared.system.System.{System}
use Rattle.calls.specs.Preparing.{IsTimed}
use Rattle.dispatch.specs.Answering.{Answers, IsAnswered, answer_to}
use Rattle.dispatch.specs.OpenFiles.{CanMove, HasRoomToMove, OpensNumber}
use Rattle.dispatch.specs.Preparing.{CanCarryOut, DoesBeside, DoesCall, IsPreparedAt, PreparesCall, PreparesOn, logged_by}
use Rattle.dispatch.specs.Showing.{ShowsNext, ShowsState}
use Rattle.dispatch.specs.declared.prepared_call.PreparedCall.{PreparedCall}
use Rattle.dispatch.proofs.LookedLaws.{ahead_shows, never_damaged, on_open, on_volumes, same_disk, served_shows}
use Rattle.dispatch.proofs.OpenFileLaws.{refused_to}
use Rattle.dispatch.proofs.ServingLaws.{NotSure, failed_by}
use Rattle.dispatch.proofs.ShowingLaws.{AheadOn, KeepsServing, KeepsViews, ahead_next, serves_next, stands_looked, still_shown, views_same}

module _ {S : Type 0} {G : Ghosts S} (f mid : System S G) (call : Command) {r : Result PreparedCall Failure} (prepares : PreparesOn f mid call r) where
  same_view : mid.view ≡ f.view
  same_view = ap (λ (k : Parts). k.view) prepares.parts

  same_session : mid.session ≡ f.session
  same_session = ap (λ (k : Parts). k.session) prepares.parts

  pub prepared_parts : system_parts mid ≡ record (system_parts f) { kept = mid.blocks.buffers.kept; pending = mid.blocks.pending; inodes = mid.inodes; view = mid.view; files = mid.files; session = mid.session }
  prepared_parts =
      prepares.parts ∙ (λ i. record (system_parts f) {
        kept = mid.blocks.buffers.kept;
        pending = mid.blocks.pending;
        inodes = mid.inodes;
        view = sym same_view i;
        files = mid.files;
        session = sym same_session i;
      })

  -- it keeps the same view of a snapshot, and shows the same state
  same_views : KeepsViews f mid.view
  same_views = views_same f same_view

  abbrev still_prepared : {s : State} (shown : ShowsState f s) → ShowsNext f mid shown s
  still_prepared shown = still_shown f mid shown (stands_looked f shown prepares.prepares.looks) same_session prepares.table prepares.fits

  -- so it serves what it served, and is as far ahead
  pub prepared_serving : KeepsServing f mid
  prepared_serving s served = serves_next f mid prepared_parts prepares.prepares.looks.reads same_views served s (still_prepared (served_shows served))

  pub prepared_still_ahead : {waits : Waits} {s kept : State} (ahead : HasStateAhead f waits s.tree.descriptors s kept) → AheadOn f mid ahead s ahead.shown.running
  prepared_still_ahead {s = s} ahead = ahead_next f mid prepared_parts prepares.prepares.looks.reads same_views ahead s (still_prepared (ahead_shows ahead))

-- what is prepared is so at the volume that is shown
pub prepared_at : {S : Type 0} {G : Ghosts S} (f mid : System S G) (call : Command) (p : PreparedCall) → PreparesOn f mid call (Ok p) → {s : State} (shown : ShowsState f s)
    → IsPreparedAt (system_parts mid) (blocks_of (disk_of mid)) shown.running call p
prepared_at f mid call p prepares shown =
    let told = prepares.prepares in
    let parts = prepares.parts in
    let v = shown.running in
    let root : mid.root ≡ f.root = ap (λ (k : Parts). k.root) parts in
    let DoesOver = λ (d : ℕ → List ℕ) (r : Root). IfSome p.change (λ c. Does (blocks_of d) (inodes_of (whole (blocks_of d) r).active) mid.inodes v c.prepared (logged_by c)) in
    let same : f.session ≡ mid.session = sym (ap (λ (k : Parts). k.session) parts) in
    let Comes = λ (x : Session) (g : Sizes) (t : ℕ → Option Description). DoesBeside (limits_of g) x v t call p.reply p.table p.change in
    record {
      said = subst IsSession same prepares.said;
      timed = subst (λ (x : Session). IfSome p.change (λ c. IsTimed (kept_time (limits_of mid.root.geometry) x.time) (logged_by c))) same
          (subst (λ (g : Sizes). IfSome p.change (λ c. IsTimed (kept_time (limits_of g) f.session.time) (logged_by c))) (f.sizes ∙ ap (λ (r : Root). r.geometry) (sym root)) told.timed);
      does = subst (λ (r : Root). DoesOver (disk_of mid) r) (sym root) (subst (λ (d : ℕ → List ℕ). DoesOver d f.root) (same_disk told.looks.reads shown.honest) (on_volumes f shown told.does));
      comes = subst (λ (x : Session). Comes x mid.root.geometry (table_of mid.files)) same
          (subst (λ (t : ℕ → Option Description). Comes f.session mid.root.geometry t) (sym prepares.table)
          (subst (λ (g : Sizes). Comes f.session g (table_of f.files)) (f.sizes ∙ ap (λ (r : Root). r.geometry) (sym root)) (on_open f shown told.answers)));
    }

-- it is refused, or a block wasn't read
pub refused_on : {S : Type 0} {G : Ghosts S} (f mid : System S G) (call : Command) → NotSure f call → (e : Failure) → PreparesOn f mid call (Err e) → Answers f mid call (answer_to (Err e))
refused_on {S} {G} f mid call not_sure e prepares =
    let told = prepares.prepares in
    let looks = told.looks in
    let stays = λ (s : State) (shown : ShowsState f s). still_prepared f mid call prepares shown in
    failed_by f mid call (prepared_parts f mid call prepares) (same_views f mid call prepares) {T = PreparedCall} e (answer_to (Err e)) refl not_sure looks.reads told.own stays (λ s shown. refused e told.answers s shown (stays s shown)) (λ s shown. never_damaged f shown told.damaged)
  where
    refused : (e : Failure) → OnOpen (blocks_with G) f.blocks f.inodes f.files (λ v. IfOk (read_outcome {T = PreparedCall} (Err e)) (DoesCall (limits_of f.inodes.geometry) f.session v (table_of f.files) call)) → (s : State) (shown : ShowsState f s)
        → ShowsNext f mid shown s → IfOk (read_outcome {T = PreparedCall} (Err e)) (λ r. IfErr r (λ errno. IsAnswered f mid shown call (Refused errno)))
    refused (failures.Read e) answers s shown stays = tt
    refused (failures.Refused errno) answers s shown stays = record {
      next = s;
      step = λ room stored. refused_to shown call errno (subst (λ (g : Sizes). DoesCall (limits_of g) f.session shown.running (table_of f.files) call (Err errno)) f.sizes (on_open f shown answers)) room;
      shows = stays;
    }

-- ---- room for what it opens

module _ {B : Type 0} {G : blocks.Ghosts B} {a b : B} {s t : InodeFile} (said : Session) {files : Descriptors} {call : Command} {p : PreparedCall} (told : PreparesCall G a b s t said files call (Ok p)) where
  -- there was none
  pub no_memory : PreparesCall G a b s t said files call (Err (failures.Read NoMemory))
  no_memory =
      let looks = told.looks in
      record {
        looks = record {
          reads = record { count = looks.reads.count; counted = tt; device = λ fault. cc; reads = looks.reads.reads; same = looks.reads.same };
          geometry = looks.geometry;
          needs = looks.needs;
          kept = looks.kept;
        };
        own = tt;
        within = tt;
        ready = tt;
        timed = tt;
        does = λ disk settled v stands. tt;
        answers = λ disk settled v stands volume mounted fits. tt;
        damaged = λ disk settled v stands bad. cc;
      }

  -- there is some
  pub can_carry_out : (k : Parts) → k.inodes ≡ t → table_of k.files ≡ table_of files → HasRoomToMove k.files p.table → CanCarryOut k p
  can_carry_out k inodes table room = record {
    moves = subst (λ (o : ℕ → Option Description). CanMove o p.table) (sym table) told.within.moves;
    numbered = subst (λ (g : Sizes). OpensNumber g.inodes p.table) (sym (ap (λ (i : InodeFile). i.geometry) inodes ∙ told.looks.geometry)) told.within.numbered;
    room = room;
    limits = told.within.limits;
    ready = subst (λ (i : InodeFile). IfSome p.change (λ c. IsReady i c.prepared)) (sym inodes) told.ready;
  }
