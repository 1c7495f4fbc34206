-- A system of which a call looked: what it shows then, and that it serves that, or is ahead by it.
use Rattle.std.proofs.Common.{◌≡◌, ◌≤◌, ◌∙◌, ℕ, List, Option, Result, arith, refl, sym, subst, ap}
use Rattle.layout.specs.StateLimits.{limits_of}
use Rattle.station.specs.Moments.{Meaning}
use Rattle.station.specs.declared.station.Station.{Ghosts}
use Rattle.layout.specs.Places.{blocks_of}
use Rattle.model.specs.declared.session.Session.{Session}
use Rattle.model.specs.Paths.{Name}
use Rattle.model.specs.Records.{Extends}
use Rattle.model.specs.States.{State}
use Rattle.model.specs.Trees.{Description, Tree}
use Rattle.model.specs.Volumes.{IsMounted, Volume}
use Rattle.buffers.specs.Errors.{IsFault}
use Rattle.buffers.specs.Reads.{ReadsBlocks}
use Rattle.buffers.specs.declared.error.BlockError.{BlockError}
use Rattle.inofile.specs.Room.{memory_room}
use Rattle.inofile.specs.declared.inode_file.InodeFile.{InodeFile}
use Rattle.overlay.specs.declared.overlay.Overlay.{Overlay}
use Rattle.paths.specs.Standing.{Looks}
use Rattle.descriptors.specs.Fits.{FitsVolume}
use Rattle.descriptors.specs.Tables.{table_of}
use Rattle.descriptors.specs.declared.table.Descriptors.{Descriptors}
use Rattle.system.specs.Ahead.{HasStateAhead, IsAhead}
use Rattle.system.specs.Memory.{IsInMemory}
use Rattle.system.specs.Serving.{ServesState}
use Rattle.system.specs.Systems.{IsServing, Parts, blocks_with, disk_of, disk_over, meaning_of, state_with, system_parts}
use Rattle.system.specs.Views.{OnShown, ShowsSnapshot}
use Rattle.system.specs.Waits.{Waits}
use Rattle.system.specs.declared.snapshot_view.View.{View}
use Rattle.system.specs.declared.system.System.{System}
use Rattle.system.proofs.AheadLaws.{read_ahead}
use Rattle.system.proofs.ViewLaws.{stays_viewed, with_view}
use Rattle.dispatch.specs.Showing.{ShowsNext, ShowsState}
use Rattle.dispatch.proofs.LookedLaws.{ahead_shows, looked_memory, looked_stored, reads_on, same_disk, served_shows}
use Rattle.dispatch.proofs.MovedLaws.{led}

-- ---- what is shown

-- with these inodes memory stands for the volume that a system shows still, and a point stores no more of it
abbrev pub StandsStill : {S : Type 0} {G : Ghosts S} (f : System S G) (inodes : InodeFile) {s : State} → ShowsState f s → Type 0
StandsStill f inodes shown =
    IsInMemory (blocks_of (disk_of f)) f.root inodes shown.running × ((first : Volume) → memory_room first inodes shown.running ≤ memory_room first f.inodes shown.running)

module _ {S : Type 0} {G : Ghosts S} (f : System S G) {s : State} (shown : ShowsState f s) where
  -- so where objects came into it
  pub stands_looked : {after : Overlay S G} {inodes : InodeFile} {T : Type 0} {r : Result T BlockError} → Looks (blocks_with G) IsFault f.blocks after f.inodes inodes r → StandsStill f inodes shown
  stands_looked looks = (looked_memory f shown looks, looked_stored f shown looks)

  -- and where nothing of it changed
  pub stands_same : {inodes : InodeFile} → inodes ≡ f.inodes → StandsStill f inodes shown
  stands_same same = (
    subst (λ (n : InodeFile). IsInMemory (blocks_of (disk_of f)) f.root n shown.running) (sym same) shown.memory,
    λ first. subst (λ (n : InodeFile). memory_room first n shown.running ≤ memory_room first f.inodes shown.running) (sym same) (omega arith),
  )

module _ {S : Type 0} {G : Ghosts S} (f new : System S G) {s : State} (shown : ShowsState f s) (stands : StandsStill f new.inodes shown) (said : new.session ≡ f.session) where
  -- then the same state is shown, with the same open files
  abbrev pub still_shown : table_of new.files ≡ table_of f.files → ((v : Volume) → FitsVolume f.files v → FitsVolume new.files v) → ShowsNext f new shown s
  still_shown same fits = record {
    running = shown.running;
    replays = λ last extends. extends;
    memory = stands.0;
    stored = stands.1;
    mounted = shown.mounted;
    opened = shown.opened ∙ sym same;
    fits = fits shown.running shown.fits;
    state = shown.state ∙ ap (λ (x : Session). state_with (limits_of f.root.geometry) x shown.running s.tree.descriptors shown.snapshots) (sym said);
  }

  -- or one with other open files
  pub moved_shown : (after : ℕ → Option Description) → after ≡ table_of new.files → FitsVolume new.files shown.running → IsMounted shown.running after
      → ShowsNext f new shown (state_with (limits_of f.root.geometry) f.session shown.running after shown.snapshots)
  moved_shown after opened fits mounted = record {
    running = shown.running;
    replays = λ last extends. extends;
    memory = stands.0;
    stored = stands.1;
    mounted = mounted;
    opened = opened;
    fits = fits;
    state = ap (λ (x : Session). state_with (limits_of f.root.geometry) x shown.running after shown.snapshots) (sym said);
  }

-- ---- a system that is ahead of what a cut leaves

module _ {m : Meaning} {k : Parts} {waits : Waits} {table : ℕ → Option Description} {s kept : State} (ahead : IsAhead m k waits table s kept) where
  -- with another view of a snapshot
  abbrev viewed_ahead : (view : Option View) → ShowsSnapshot (blocks_of (disk_over k m.seen.disk)) k.root.geometry ahead.served.snapshots view
      → ShowsSnapshot (blocks_of (disk_over k m.seen.disk)) k.root.geometry ahead.shown.snapshots view → IsAhead m (record k { view = view }) waits table s kept
  viewed_ahead view there here = record {
    waiting = ahead.waiting;
    batch = ahead.batch;
    then_inodes = ahead.then_inodes;
    then_files = ahead.then_files;
    then_session = ahead.then_session;
    then_table = ahead.then_table;
    served = with_view ahead.served view there;
    shown = with_view ahead.shown view here;
    base = ahead.base;
    behind = ahead.behind;
  }

  -- by another state that its records lead to
  abbrev pub led_ahead : (now_inodes : InodeFile) (now_files : Descriptors) (now_session : Session) (running : Volume) (after : ℕ → Option Description) (next : State)
      → ((last : Volume) → Extends ahead.shown.running last → Extends running last) → IsInMemory (blocks_of (disk_over k m.seen.disk)) k.root now_inodes running
      → memory_room ahead.shown.first now_inodes running ≤ memory_room ahead.shown.first k.inodes ahead.shown.running
      → IsMounted running after → after ≡ table_of now_files → FitsVolume now_files running → next ≡ state_with (limits_of k.root.geometry) now_session running after ahead.shown.snapshots
      → IsAhead m (record k { inodes = now_inodes; files = now_files; session = now_session }) waits after next kept
  led_ahead now_inodes now_files now_session running after next replays memory stores mounted opened fits state = record {
    waiting = ahead.waiting;
    batch = ahead.batch;
    then_inodes = ahead.then_inodes;
    then_files = ahead.then_files;
    then_session = ahead.then_session;
    then_table = ahead.then_table;
    served = ahead.served;
    shown = led ahead.shown now_inodes now_files now_session running after next replays memory stores mounted opened fits state;
    base = ahead.base;
    behind = ahead.behind;
  }

-- ---- it looked

-- A system serves the next state, of this volume, by the records of another one over the same root.
pub record ServesOn {S : Type 0} {G : Ghosts S} (old new : System S G) {s : State} (served : ServesState old s) (next : State) (running : Volume) : Type 0 where
  pub serves : ServesState new next
  pub volume : serves.running ≡ running
  pub bodies : serves.lasts.bodies ≡ served.lasts.bodies
  pub changes : serves.lasts.replayed.changes ≡ served.lasts.replayed.changes
  pub first : serves.first ≡ served.first

-- it serves the same one still
abbrev pub ServesStill : {S : Type 0} {G : Ghosts S} (old new : System S G) (s : State) → ServesState old s → Type 0
ServesStill old new s served = ServesOn old new served s served.running

abbrev pub KeepsServing : {S : Type 0} {G : Ghosts S} → System S G → System S G → Type 0
KeepsServing old new = (s : State) (served : ServesState old s) → ServesStill old new s served

-- A system is ahead by the next state, of this volume, of what a cut leaves, and what that leaves is over the same base.
pub record AheadOn {S : Type 0} {G : Ghosts S} (old new : System S G) {waits : Waits} {s kept : State} (ahead : HasStateAhead old waits s.tree.descriptors s kept) (next : State) (running : Volume) : Type 0 where
  pub still : HasStateAhead new waits next.tree.descriptors next kept
  pub volume : still.shown.running ≡ running
  pub settled : still.served.settled ≡ ahead.served.settled

-- where the view that a system keeps is of a snapshot, this one is
abbrev pub KeepsViews : {S : Type 0} {G : Ghosts S} → System S G → Option View → Type 0
KeepsViews {G = G} f view = OnShown (blocks_with G) f.blocks f.root f.view (λ disk snapshots. ShowsSnapshot disk f.root.geometry snapshots view)

-- so is the same one
pub views_same : {S : Type 0} {G : Ghosts S} (f : System S G) {view : Option View} → view ≡ f.view → KeepsViews f view
views_same f same disk shows v snapshots holds shown = subst (λ (o : Option View). ShowsSnapshot disk f.root.geometry snapshots o) (sym same) shown

module _ {S : Type 0} {G : Ghosts S} (old new : System S G)
    (parts : system_parts new ≡ record (system_parts old) { kept = new.blocks.buffers.kept; pending = new.blocks.pending; inodes = new.inodes; view = new.view; files = new.files; session = new.session })
    {T : Type 0} {r : Result T BlockError} (reads : ReadsBlocks (blocks_with G) IsFault old.blocks new.blocks r) (view : KeepsViews old new.view) where
  abbrev disk : ℕ → List ℕ
  disk = blocks_of (disk_of old)

  abbrev InMemory : (ℕ → List ℕ) → Volume → Type 0
  InMemory d running = IsInMemory (blocks_of d) old.root new.inodes running

  pub serves_next : {s : State} (served : ServesState old s) (next : State) (on : ShowsNext old new (served_shows served) next) → ServesOn old new served next on.running
  serves_next {s} served next on =
      let On = λ (k : Parts). (serves : IsServing (meaning_of new) k next.tree.descriptors next) × (serves.running ≡ on.running) × (serves.lasts.bodies ≡ served.lasts.bodies)
      × (serves.lasts.replayed.changes ≡ served.lasts.replayed.changes) × (serves.first ≡ served.first) in
      let over = stays_viewed old new.blocks new.view s (reads_on reads) reads.same served (view disk served.shows served.first served.snapshots served.under.holds served.view) in
      let memory = subst (λ (d : ℕ → List ℕ). InMemory d on.running) (same_disk reads served.honest) on.memory in
      let it = subst On (sym parts) (
        led over new.inodes new.files new.session on.running next.tree.descriptors next on.replays memory (on.stored served.first) on.mounted on.opened on.fits on.state,
        refl,
        refl,
        refl,
        refl,
      ) in
      record { serves = it.0; volume = it.1; bodies = it.2; changes = it.3; first = it.4 }

  pub ahead_next : {waits : Waits} {s kept : State} (ahead : HasStateAhead old waits s.tree.descriptors s kept) (next : State) (on : ShowsNext old new (ahead_shows ahead) next)
      → AheadOn old new ahead next on.running
  ahead_next {waits} {s} {kept} ahead next on =
      let On = λ (k : Parts). (still : IsAhead (meaning_of new) k waits next.tree.descriptors next kept) × (still.shown.running ≡ on.running) × (still.served.settled ≡ ahead.served.settled) in
      let seen = λ (first : Volume) (snapshots : List (Name × Tree)). view disk ahead.served.shows first snapshots in
      let viewed = viewed_ahead ahead new.view (seen ahead.served.first ahead.served.snapshots ahead.served.under.holds ahead.served.view) (seen ahead.shown.first ahead.shown.snapshots ahead.shown.under.holds ahead.shown.view) in
      let over = read_ahead viewed (meaning_of new) new.blocks.buffers.kept new.blocks.pending old.inodes (reads_on reads) reads.same (λ v over. over) refl (λ n k least. least) in
      let memory = subst (λ (d : ℕ → List ℕ). InMemory d on.running) (same_disk reads ahead.served.honest) on.memory in
      let it = subst On (sym parts) (
        led_ahead over new.inodes new.files new.session on.running next.tree.descriptors next on.replays memory (on.stored ahead.shown.first) on.mounted on.opened on.fits on.state,
        refl,
        refl,
      ) in
      record { still = it.0; volume = it.1; settled = it.2 }

-- and where it has the same, it serves the same
pub same_still : {S : Type 0} {G : Ghosts S} (f new : System S G) → meaning_of new ≡ meaning_of f → system_parts new ≡ system_parts f → KeepsServing f new
same_still f new meaning parts s served =
    let Still = λ (m : Meaning) (k : Parts). (serves : IsServing m k s.tree.descriptors s) × (serves.running ≡ served.running) × (serves.lasts.bodies ≡ served.lasts.bodies)
    × (serves.lasts.replayed.changes ≡ served.lasts.replayed.changes) × (serves.first ≡ served.first) in
    let it = subst (λ (k : Parts). Still (meaning_of new) k) (sym parts) (subst (λ (m : Meaning). Still m (system_parts f)) (sym meaning) (served, refl, refl, refl, refl)) in
    record { serves = it.0; volume = it.1; bodies = it.2; changes = it.3; first = it.4 }
