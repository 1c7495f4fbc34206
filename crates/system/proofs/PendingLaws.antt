-- A system behind a consistency point that was laid over its blocks and then carried out.
use Rattle.std.proofs.Common.{◌≡◌, ◌⊎◌, inl, inr, ℕ, ◌+◌, ◌*◌, ◌≤◌, Option, None, Result, Ok, Err, refl, ap, sym, subst, ◌∙◌, arith}
use Rattle.std.specs.Prelude.{IfSome, IsErrOf, IsFalse}
use Rattle.station.specs.Images.{Images, Sector, Unchanged}
use Rattle.station.specs.Moments.{EachCut, Goes, HasSizes, LeavesOnly, MayLeave, Meaning}
use Rattle.station.specs.declared.station.Station.{Ghosts}
use Rattle.station.proofs.Moments.{leaves_unchanged}
use Rattle.layout.specs.Limits.{Sizes}
use Rattle.layout.specs.Places.{blocks_of}
use Rattle.layout.specs.declared.root.Root.{Root}
use Rattle.model.specs.declared.session.Session.{Session}
use Rattle.model.specs.Records.{count_orphans}
use Rattle.layout.specs.StateLimits.{fixed_of, limits_of}
use Rattle.model.specs.States.{State, with_snapshots}
use Rattle.model.specs.Trees.{Description}
use Rattle.descriptors.specs.Fits.{FitsVolume}
use Rattle.descriptors.specs.Tables.{table_of}
use Rattle.descriptors.specs.declared.table.Descriptors.{Descriptors}
use Rattle.images.specs.Roots.{head, whole}
use Rattle.images.specs.Room.{free_under}
use Rattle.images.specs.SnapshotSteps.{SnapshotStep, StepsSlots, kept_after, unchanged}
use Rattle.inofile.specs.Inodes.{IsChanged}
use Rattle.inofile.specs.Room.{memory_room}
use Rattle.inofile.specs.declared.inode_file.InodeFile.{InodeFile}
use Rattle.model.specs.Volumes.{Volume}
use Rattle.oplog.specs.LogEnd.{LogEnd, StandsAt, no_bodies}
use Rattle.conspoint.specs.Cuts.{HasNewRoot}
use Rattle.conspoint.specs.Finished.{disk_after}
use Rattle.conspoint.specs.Plans.{FitsDisk, Planned}
use Rattle.conspoint.specs.Writes.{writes_of}
use Rattle.overlay.specs.Overlays.{ShowsOver, planned_disk}
use Rattle.overlay.specs.declared.pending.PendingPoint.{PendingPoint}
use Rattle.planning.specs.declared.change.SnapshotChange.{SnapshotChange}
use Rattle.system.specs.Counting.{Counted, LogsNothing, no_call, point_error_failed}
use Rattle.system.specs.Errors.{IsNotWritten, IsRefused}
use Rattle.system.specs.Images.{IsLeft, IsUnder, OpensTo}
use Rattle.system.specs.Laws.{CutLaws, RootLaws}
use Rattle.system.specs.Memory.{HasEntries, IsInMemory}
use Rattle.system.specs.Points.{HasRoomToPlan, HasRoomToStep, IsStepFor, KeepsSlots, MakesPointFrom, MayCheckpoint, StepsTo, turned}
use Rattle.system.specs.Slicing.{CarriesOut, Finishes, IsPending, Begins}
use Rattle.system.specs.Systems.{HasState, HasStateBy, IsCovered, Parts, disk_of, meaning_of, state_with, system_parts}
use Rattle.system.specs.UnderWay.{WayLaws}
use Rattle.system.specs.declared.error.PointError.{PointError}
use Rattle.system.specs.declared.error.PointError.TheVariants.{NotWritten}
use Rattle.system.specs.Views.{ShowsSnapshot}
use Rattle.system.specs.declared.snapshot_view.View.{View}
use Rattle.system.specs.declared.system.System.{System}
use Rattle.system.proofs.CountingLaws.{all_written, counted_after, logged_twice, not_written, nothing_logged}
use Rattle.system.proofs.CoveredLaws.{covered_at}
use Rattle.system.proofs.PointLaws as points
use Rattle.system.proofs.PointLaws.{OnceCovered}
use Rattle.system.proofs.SettledLaws.{agrees, none_replayed}
use Rattle.system.proofs.SystemLaws as served

-- a write that failed isn't another error
abbrev error_of : Result (Unit {0}) PointError → PointError
error_of (Ok it) = NotWritten
error_of (Err e) = e

not_other : (e other : PointError) → e ≡ NotWritten → IsRefused other → IsErrOf {T = Unit {0}} {E = PointError} (Err e) other → ⊥
not_other e other failed refused is = subst IsRefused (sym (ap error_of is) ∙ failed) refused

-- What a state that memory served, by these objects, is to the point: memory may settle a volume over the base of this step, and the other
-- state is that of the volume.
pub record Turning {S : Type 0} {G : Ghosts S} (change : SnapshotChange) (old : System S G) (known : InodeFile) (table : ℕ → Option Description) (s : State)
    (serves : HasStateBy known old table s) (t : State) (IsRoomy : Type 0) : Type 0 where
  pub step : SnapshotStep
  pub base : Volume
  pub volume : Volume
  pub is : IsStepFor change old step
  pub may : MayCheckpoint change old old.inodes table base volume
  pub room : IsRoomy → HasRoomToPlan change old (memory_room base old.inodes volume)
  pub state : t ≡ turned (limits_of old.root.geometry) old.session step volume table serves.first serves.snapshots

-- a point that starts from the tree that is there settles the running volume
unfoldable pub steps_turn : {S : Type 0} {G : Ghosts S} (change : SnapshotChange) (old : System S G) → old.blocks.pending ≡ None → (table : ℕ → Option Description) (s : State) (serves : HasState old table s) (t : State)
    → StepsTo change old table s serves t → Turning change old old.inodes table s serves t (HasRoomToStep change old)
steps_turn {G = G} change old none table s serves t leads = record {
  step = leads.0;
  base = serves.first;
  volume = serves.running;
  is = leads.1;
  may = points.checkpoints_running {G = G} old serves change leads.0 leads.1.is leads.2;
  room = points.has_room {G = G} old serves none change;
  state = leads.3 ∙ ap (with_snapshots (kept_after leads.0 serves.first serves.snapshots)) serves.state;
}

module _ (cuts : CutLaws) (roots : RootLaws) (ways : WayLaws) {S : Type 0} {G : Ghosts S} (old mid new : System S G) (change : SnapshotChange) (none : old.blocks.pending ≡ None)
    (begins : Begins change old mid (Ok tt)) (known : InodeFile) where
  abbrev m : Meaning
  m = meaning_of old

  abbrev n : Meaning
  n = meaning_of new

  module _ {table : ℕ → Option Description} {s : State} (serves : HasStateBy known old table s) (step : SnapshotStep) {base v : Volume} (is : IsPending step old mid known table s serves base v) (here : MayLeave m m.seen)
      (result : Result (Unit {0}) PointError) (does : Finishes mid new result) where
    abbrev p : Planned
    p = is.pending.plan

    carries : CarriesOut mid new result is.pending
    carries = subst (λ (l : Option PendingPoint). IfSome l (CarriesOut mid new result)) is.is does.carried

    at_any_moment : LeavesOnly m n (λ c. OpensTo m s c ⊎ OpensTo m (turned (limits_of old.root.geometry) old.session step v table serves.first serves.snapshots) c)
    at_any_moment =
        points.at_any_moment cuts serves none old.sectors old.half p mid.root step v is.planned here (meaning_of mid) n begins.reads.goes carries.any_moment

  -- ---- it is carried out

  module _ {table : ℕ → Option Description} {s : State} (serves : HasStateBy known old table s) (step : SnapshotStep) {base v : Volume} (is : IsPending step old mid known table s serves base v)
      (may : MayCheckpoint change old old.inodes table base v) (here : MayLeave m m.seen) (does : Finishes mid new (Ok tt)) (left : n.is_honest → MayLeave n n.seen) (sized : EachCut n (HasSizes n)) where
    abbrev plan : Planned
    plan = is.pending.plan

    honest : n.is_honest
    honest = does.writes.same.honest.0 (begins.reads.goes serves.honest).honest

    done : CarriesOut mid new (Ok tt) is.pending
    done = carries serves step is here (Ok tt) does

    has : HasNewRoot plan m.seen n.seen
    has = subst (λ (i : Images). HasNewRoot plan i n.seen) (begins.reads.goes serves.honest).seen (done.settled honest n.seen (left honest))

    -- the disk that is read is the one that memory stood on
    disk : disk_of mid ≡ n.seen.disk
    disk =
        let fits = subst (λ (k : ℕ). FitsDisk k plan) (sym (does.writes.same.sectors ∙ begins.reads.same.sectors ∙ old.sectors)) is.planned.fits in
        ap (λ (l : Option PendingPoint). planned_disk l (meaning_of mid).seen.disk) is.is ∙ ap (λ (i : Images). disk_after plan i.disk) (begins.reads.goes serves.honest).seen
        ∙ sym (ways.one n.sectors plan m.seen n.seen is.sound fits (sized honest n.seen (left honest)).sector has)

    abbrev parts_then : Parts
    parts_then = record (system_parts mid) { kept = new.blocks.buffers.kept; pending = None; map = new.map; pledged = mid.pledged_then }

    parts_are : system_parts new ≡ parts_then
    parts_are =
        does.parts ∙ ap (λ (k : ℕ). record (system_parts mid) { kept = new.blocks.buffers.kept; pending = None; map = new.map; pledged = k }) (does.pledges (λ rests. served.not_both is.pending (sym is.is ∙ rests)))

    under : IsUnder mid.slot mid.root v (kept_after step serves.first serves.snapshots) n.seen.disk
    under = subst (IsUnder mid.slot mid.root v (kept_after step serves.first serves.snapshots)) disk is.under

    entries : HasEntries (whole (blocks_of n.seen.disk) mid.root).active new.map
    entries = subst (λ (d : ℕ → Sector). HasEntries (whole (blocks_of d) mid.root).active new.map) disk (λ b. done.map.settled b ∙ is.to_come b)

    shows : ShowsOver n new.blocks.buffers.kept None (blocks_of n.seen.disk)
    shows = subst (λ (d : ℕ → Sector). ShowsOver n new.blocks.buffers.kept None (blocks_of d)) disk
        (subst (λ (l : Option PendingPoint). ShowsOver n new.blocks.buffers.kept l (blocks_of (disk_of mid))) (ap (λ (k : Parts). k.pending) does.parts) (does.shows (blocks_of (disk_of mid)) is.shows))

    stands : StandsAt mid.log mid.root.generation no_bodies n.seen.nvram
    stands =
        let rest = served.at_rest serves none in
        let last = rest.under.newest.there.root.head.last in
        subst (λ (g : ℕ). StandsAt mid.log g no_bodies n.seen.nvram) (sym is.planned.covers)
        (subst (StandsAt mid.log old.log.epoch no_bodies) (sym has.nvram)
        (is.covered old.root.generation rest.lasts.bodies m.seen.nvram (omega (arith, last)) (rest.left serves.honest m.seen here).log_stands))

    free : free_under (whole (blocks_of m.seen.disk) old.root).active old.root.geometry.blocks ≤ free_under (whole (blocks_of n.seen.disk) mid.root).active old.root.geometry.blocks + is.planned.room.spent
    free = roots.free m.sectors m.seen.disk n.seen.disk m.seen.nvram s (writes_of plan.blocks) plan.slot mid.root v step is.planned.room.spent
        (points.reads cuts serves none old.sectors old.half plan mid.root step v is.planned here) is.planned.point
        (points.with_root cuts serves none old.sectors old.half plan mid.root step v is.planned here n.seen has) is.planned.room.leaves

    abbrev after : State
    after = turned (limits_of old.root.geometry) old.session step v table serves.first serves.snapshots

    settled : OnceCovered n parts_then table after
    settled = (
      record {
        honest = honest;
        shows = shows;
        first = v;
        snapshots = kept_after step serves.first serves.snapshots;
        under = under;
        running = v;
        mounted = may.mounted;
        memory = subst (λ (d : ℕ → Sector). IsInMemory (blocks_of d) mid.root mid.inodes v) disk is.memory;
        view = subst (λ (o : Option View). ShowsSnapshot (blocks_of n.seen.disk) mid.root.geometry (kept_after step serves.first serves.snapshots) o) (sym is.viewless) tt;
        settled = record { disk = n.seen.disk; root = mid.root; volume = v };
        lasts = record {
          newest = under.newest.newest;
          holds = under.holds;
          bodies = no_bodies;
          replayed = none_replayed (limits_of mid.root.geometry) v;
          pledges = omega (arith, is.pledges, ap (λ (g : Sizes). count_orphans g.inodes v) is.planned.point.geometry);
          reserved = subst (λ (g : Sizes). 4 * count_orphans g.inodes v + 0 + fixed_of g.blocks ≤ free_under (whole (blocks_of n.seen.disk) mid.root).active g.blocks) (sym is.planned.point.geometry)
              (omega (arith, free, is.planned.room.enough));
        };
        left = λ honest c left. subst (IsLeft mid.root mid.log no_bodies n.seen.disk) (sym (done.just honest c left)) (record { same = λ k some. refl; log_stands = stands });
        entries = entries;
        bridge = inl (record { none = refl; base = refl; all = refl });
        goes = subst (λ (l : LogEnd). IsFalse l.is_stopped) (sym begins.log) serves.goes;
        stored = is.stored;
        opened = serves.opened ∙ ap table_of (sym begins.same.1);
        fits = subst (λ (d : Descriptors). FitsVolume d v) (sym begins.same.1) may.fits;
        state = ap (λ (g : Sizes). state_with (limits_of g) old.session v table (kept_after step serves.first serves.snapshots)) (sym is.planned.point.geometry)
            ∙ ap (λ (x : Session). state_with (limits_of mid.root.geometry) x v table (kept_after step serves.first serves.snapshots)) (sym begins.same.2);
      },
      refl,
      refl,
    )

    covered : IsCovered new table after
    covered =
        let there = subst (λ (k : Parts). OnceCovered n k table after) (sym parts_are) settled in
        record { rests = ap (λ (k : Parts). k.pending) does.parts; serves = there.0; no_record = there.1; held = there.2 }

    -- where it leaves the snapshots alone they stand where they stood
    keeps_slots : step ≡ unchanged → KeepsSlots old new
    keeps_slots same =
        let there : disk_of old ≡ m.seen.disk = ap (λ (l : Option PendingPoint). planned_disk l m.seen.disk) none in
        let then : disk_of new ≡ n.seen.disk = ap (λ (k : Parts). planned_disk k.pending n.seen.disk) parts_are in
        let root : new.root ≡ mid.root = ap (λ (k : Parts). k.root) parts_are in
        record {
          slots = ap (λ (r : Root). r.snapshots) root ∙ subst (λ (s : SnapshotStep). StepsSlots s old.root mid.root) same is.planned.point.snapshots;
          heads = λ k block at.
              ap (λ (d : ℕ → Sector). blocks_of d block) then
              ∙ agrees cuts roots serves none old.sectors old.half plan mid.root step v is.planned here n.seen has block (head k at)
              ∙ sym (ap (λ (d : ℕ → Sector). blocks_of d block) there);
          later = subst (λ (r : Root). old.root.generation ≤ r.generation) (sym root) (omega (arith, is.planned.point.later));
          geometry = ap (λ (r : Root). r.geometry) root ∙ is.planned.point.geometry;
        }

  -- ---- what is promised of it

  module _ (here : m.is_honest → MayLeave m m.seen) (left : n.is_honest → MayLeave n n.seen) (sized : EachCut n (HasSizes n))
      (Leads : (table : ℕ → Option Description) (s : State) → HasStateBy known old table s → State → Type 0) (IsRoomy : Type 0)
      (turns : (table : ℕ → Option Description) (s : State) (serves : HasStateBy known old table s) (t : State) → Leads table s serves t → Turning change old known table s serves t IsRoomy) where
    pending_by : (table : ℕ → Option Description) (s : State) (serves : HasStateBy known old table s) (t : State) (leads : Leads table s serves t) → IsRoomy
        → let turn = turns table s serves t leads in IsPending turn.step old mid known table s serves turn.base turn.volume
    pending_by table s serves t leads room =
        let turn = turns table s serves t leads in
        begins.pending known table s serves turn.base turn.volume turn.may turn.step turn.is (turn.room room)

    moments : (result : Result (Unit {0}) PointError) → Finishes mid new result → (table : ℕ → Option Description) (s : State) (serves : HasStateBy known old table s) (t : State) → Leads table s serves t
        → IsRoomy → LeavesOnly m n (λ c. OpensTo m s c ⊎ OpensTo m t c)
    moments result does table s serves t leads room =
        let turn = turns table s serves t leads in
        subst (λ (u : State). LeavesOnly m n (λ c. OpensTo m s c ⊎ OpensTo m u c)) (sym turn.state)
        (at_any_moment serves turn.step (pending_by table s serves t leads room) (here serves.honest) result does)

    pub made : (result : Result (Unit {0}) PointError) → Finishes mid new result → MakesPointFrom m old.log (HasStateBy known old) Leads IsRoomy new result
    made (Ok it) does = record {
      counted = counted_after m (meaning_of mid) n no_call begins.counted (all_written {T = Unit {0}} {E = PointError} IsNotWritten (meaning_of mid) n it does.writes);
      any_moment = moments (Ok it) does;
      covered = λ table s serves t leads room.
          let turn = turns table s serves t leads in
          covered_at new table _ t turn.state (covered serves turn.step (pending_by table s serves t leads room) turn.may (here serves.honest) does left sized);
      refused = λ table s serves. tt;
      kept = tt;
      unlogged = logged_twice m (meaning_of mid) n (nothing_logged m (meaning_of mid) begins.reads.goes) does.unlogged;
      generation = ap (λ (k : Parts). k.root.generation) does.parts ∙ begins.generation;
      log = ap (λ (k : Parts). k.log) does.parts ∙ begins.log;
      rests = ap (λ (k : Parts). k.pending) does.parts;
      unchanged = subst (λ (k : Parts). (n : ℕ) → IsChanged k.inodes n → ⊥) (sym does.parts) begins.unchanged;
      roomy = λ table s serves t leads room is. cc;
      damaged = λ table s serves t leads is. cc;
      last = λ table s serves is. cc;
      past = λ is. cc;
    }
    made (Err e) does = record {
      counted = counted_after m (meaning_of mid) n (point_error_failed e) begins.counted (subst (λ (x : PointError). Counted (meaning_of mid) n (point_error_failed x)) (sym does.why)
          (not_written {T = Unit {0}} {E = PointError} IsNotWritten (meaning_of mid) n e does.writes does.why));
      any_moment = moments (Err e) does;
      covered = λ table s serves t leads room. tt;
      refused = λ table s serves refused. absurd (subst IsRefused does.why refused);
      kept = λ refused. absurd (subst IsRefused does.why refused);
      unlogged = logged_twice m (meaning_of mid) n (nothing_logged m (meaning_of mid) begins.reads.goes) does.unlogged;
      generation = tt;
      log = inr (does.why, ap (λ (k : Parts). k.log) does.parts ∙ begins.log);
      rests = ap (λ (k : Parts). k.pending) does.parts;
      unchanged = tt;
      roomy = λ table s serves t leads room is. absurd (not_other e _ does.why tt is);
      damaged = λ table s serves t leads is. absurd (not_other e _ does.why tt is);
      last = λ table s serves is. absurd (not_other e _ does.why tt is);
      past = λ is. absurd (not_other e _ does.why tt is);
    }

    pub kept_slots : Finishes mid new (Ok tt) → (table : ℕ → Option Description) (s : State) (serves : HasStateBy known old table s) (t : State) (leads : Leads table s serves t) → IsRoomy
        → (turns table s serves t leads).step ≡ unchanged → KeepsSlots old new
    kept_slots does table s serves t leads room =
        let turn = turns table s serves t leads in
        keeps_slots serves turn.step (pending_by table s serves t leads room) turn.may (here serves.honest) does left sized

-- nothing was planned, and the system has these objects in memory again
module _ (cuts : CutLaws) {S : Type 0} {G : Ghosts S} (old new : System S G) (change : SnapshotChange) (e : PointError) (begins : Begins change old new (Err e)) (known : InodeFile)
    (Leads : (table : ℕ → Option Description) (s : State) → HasStateBy known old table s → State → Type 0) (IsRoomy : Type 0)
    (turns : (table : ℕ → Option Description) (s : State) (serves : HasStateBy known old table s) (t : State) → Leads table s serves t → Turning change old known table s serves t IsRoomy) where
  abbrev before : Meaning
  before = meaning_of old

  abbrev behind : Meaning
  behind = meaning_of new

  pub not_made : (again : System S G) → meaning_of again ≡ behind → again.log ≡ new.log → again.blocks.pending ≡ new.blocks.pending
      → ((table : ℕ → Option Description) (s : State) → HasStateBy known new table s → HasState again table s) → MakesPointFrom before old.log (HasStateBy known old) Leads IsRoomy again (Err e)
  not_made again meaning log pending serves_again = record {
    counted = subst (λ (n : Meaning). Counted before n (point_error_failed e)) (sym meaning) begins.counted;
    any_moment = λ table s serves t leads room.
        subst (λ (n : Meaning). LeavesOnly before n (λ c. OpensTo before s c ⊎ OpensTo before t c)) (sym meaning)
        (leaves_unchanged before behind (λ c. OpensTo before s c ⊎ OpensTo before t c) (λ honest c left. inl (served.all_open serves old.sectors old.half cuts honest c left)) begins.reads.goes);
    covered = λ table s serves t leads room. tt;
    refused = λ table s serves refused. serves_again table s (begins.refused known table s serves);
    kept = λ refused. subst (λ (n : Meaning). Goes Unchanged before n) (sym meaning) begins.reads.goes;
    unlogged = subst (λ (n : Meaning). LogsNothing before n) (sym meaning) (nothing_logged before behind begins.reads.goes);
    generation = tt;
    log = inl (begins.why, log ∙ begins.log);
    rests = pending ∙ begins.none;
    unchanged = tt;
    roomy = λ table s serves t leads room. let turn = turns table s serves t leads in begins.roomy known table s serves turn.base turn.volume turn.may (turn.room room);
    damaged = λ table s serves t leads. let turn = turns table s serves t leads in begins.damaged known table s serves turn.base turn.volume turn.may;
    last = λ table s serves. begins.last known table s serves;
    past = begins.past;
  }
