-- What was prepared of a call, and the table of open files that moves by it.
use Rattle.std.proofs.Common.{◌≡◌, ℕ, List, None, Option, ap, sym, subst, ◌∙◌}
use Rattle.model.specs.declared.session.Session.{Session}
use Rattle.model.specs.declared.limits.Limits.{Limits}
use Rattle.layout.specs.StateLimits.{limits_of}
use Rattle.station.specs.declared.station.Station.{Ghosts}
use Rattle.model.specs.Paths.{Name}
use Rattle.model.specs.Records.{Change, applied, work_of}
use Rattle.model.specs.States.{State}
use Rattle.model.specs.Trees.{Description, Tree}
use Rattle.model.specs.Volumes.{IsMounted, Volume, swept}
use Rattle.model.specs.declared.command.Command.{Command}
use Rattle.model.specs.declared.reply.Reply.{Reply}
use Rattle.descriptors.specs.Fits.{FitsVolume}
use Rattle.descriptors.specs.Tables.{table_of}
use Rattle.descriptors.specs.declared.table.Descriptors.{Descriptors}
use Rattle.system.specs.Serving.{LeavesEither, ServesState}
use Rattle.system.specs.Systems.{IsServingWith, ServesWith, meaning_of, system_parts, state_with}
use Rattle.system.specs.declared.system.System.{System}
use Rattle.dispatch.specs.Answering.{IsAnswered}
use Rattle.dispatch.specs.OpenFiles.{FitsMove, moved_table}
use Rattle.dispatch.specs.Preparing.{DoesBeside, IsPreparedAt}
use Rattle.dispatch.specs.Showing.{ShowsState}
use Rattle.dispatch.specs.declared.prepared_call.PreparedCall.{PreparedCall}
use Rattle.dispatch.specs.declared.prepared_call.PreparedChange.{PreparedChange}
use Rattle.dispatch.specs.declared.table_move.TableMove.{TableMove}
use Rattle.dispatch.proofs.HandlingLaws.{LeadsOn}
use Rattle.dispatch.proofs.LookedLaws.{its_table, served_shows}
use Rattle.dispatch.proofs.MovedLaws.{leaves_moved}
use Rattle.dispatch.proofs.OpenFileLaws.{IsLogged, moved_on, table_leads}
use Rattle.dispatch.proofs.ShowingLaws.{stands_same}

-- what a call does to the table leads from a mounted volume to one
pub record Moves (old new : Descriptors) (move : TableMove) : Type 0 where
  pub table : table_of new ≡ moved_table move (table_of old)
  pub fits : (v : Volume) → FitsVolume old v → FitsMove v move → FitsVolume new v
  pub mounted : (v : Volume) → FitsVolume old v → IsMounted v (table_of old) → FitsMove v move → IsMounted v (table_of new)

-- behind the record of a call that does this to the table
pub logged_moves : {S : Type 0} {G : Ghosts S} (mid : System S G) (now_files : Descriptors) (move : TableMove) (table : ℕ → Option Description) (limits : Limits) (said : Session) (v : Volume) (snapshots : List (Name × Tree))
    (changes : List Change) → ServesWith mid table (state_with limits said v table snapshots) v changes → IsMounted v table → FitsMove v move → Moves mid.files now_files move
    → IsServingWith (meaning_of mid) (record (system_parts mid) { files = now_files }) (moved_table move table) (state_with limits said v (moved_table move table) snapshots) v changes
logged_moves mid now_files move table limits said v snapshots changes behind mounted fits moves =
    let serves = behind.serves in
    let opened : moved_table move table ≡ table_of now_files = ap (moved_table move) serves.opened ∙ sym moves.table in
    let fits_now : FitsVolume mid.files v = subst (λ (w : Volume). FitsVolume mid.files w) behind.volume serves.fits in
    let mounted_now : IsMounted v (table_of mid.files) = subst (λ (t : ℕ → Option Description). IsMounted v t) serves.opened mounted in
    moved_on limits said snapshots behind now_files (moved_table move table) opened
    (moves.fits v fits_now fits) (subst (λ (t : ℕ → Option Description). IsMounted v t) (sym opened) (moves.mounted v fits_now mounted_now fits))

-- a call that changes nothing but the table
pub unchanged_leads : {S : Type 0} {G : Ghosts S} (f new : System S G) {s : State} (shown : ShowsState f s) {disk : ℕ → List ℕ} (call : Command) (p : PreparedCall) → p.change ≡ None → IsPreparedAt (system_parts f) disk shown.running call p
    → new.session ≡ f.session → new.inodes ≡ f.inodes → Moves f.files new.files p.table → IsAnswered f new shown call p.reply
unchanged_leads f new shown call p none prepared said inodes moves =
    let v = shown.running in
    let beside = subst (λ (o : Option PreparedChange). DoesBeside (limits_of f.root.geometry) f.session v (table_of f.files) call p.reply p.table o) none prepared.comes in
    table_leads f new shown call p.reply said (stands_same f shown inodes) (moved_table p.table (table_of f.files)) (sym moves.table) (moves.fits v shown.fits beside.0)
    (subst (λ (t : ℕ → Option Description). IsMounted v t) moves.table (moves.mounted v shown.fits (its_table f shown) beside.0)) beside.1

-- what its record comes to, where a cut leaves the state before it or the one that it leads to
abbrev pub leads_on : {S : Type 0} {G : Ghosts S} (f new : System S G) (s : State) (served : ServesState f s) (call : Command) (reply : Reply) (move : TableMove) (change : Change) → IsLogged (served_shows served) call reply move change
    → LeavesEither (meaning_of f) (meaning_of new) s (state_with (limits_of f.root.geometry) f.session (swept s.tree.descriptors (applied change served.running)) s.tree.descriptors served.snapshots)
    → LeadsOn f new s call reply
leads_on f new s served call reply move change made leaves =
    let table = s.tree.descriptors in
    let limits = limits_of f.root.geometry in
    let after = swept table (applied change served.running) in
    record {
      after = state_with limits f.session after (moved_table move table) served.snapshots;
      work = work_of served.running change;
      step = made.step;
      leaves = leaves_moved (meaning_of f) (meaning_of new) s limits f.session after table (moved_table move table) served.snapshots leaves;
    }
