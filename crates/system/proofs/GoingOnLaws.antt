-- What a step of a consistency point leaves of what a system serves.
use Rattle.std.proofs.Common.{◌≡◌, ◌≢◌, ◌⊎◌, ◌↔◌, inl, inr, Bool, Ok, ℕ, ◌+◌, ◌*◌, ◌≤◌, ◌<◌, List, Option, Some, None, Result, Err, length, refl, ap, sym, subst, ◌∙◌, arith}
use Rattle.std.specs.Prelude.{IfErr, IsFalse, IsTrue}
use Rattle.std.proofs.lemmas.Bool.{false≢true}
use Rattle.layout.specs.StateLimits.{limits_of}
use Rattle.station.specs.Calls.{OnlyWrites}
use Rattle.station.specs.Images.{Images, Sector}
use Rattle.station.specs.Moments.{Meaning, MayLeave, EachCut, After, Goes, IsSameStation, IsSector, LeavesJust, LeavesOnly}
use Rattle.station.specs.declared.station.Station.{Ghosts}
use Rattle.station.proofs.Moments.{each_unchanged, goes_on, same_none, started, weaker}
use Rattle.layout.specs.Limits.{Sizes}
use Rattle.layout.specs.Places.{blocks_of}
use Rattle.model.specs.declared.session.Session.{Session}
use Rattle.model.specs.States.{State}
use Rattle.model.specs.Trees.{Description}
use Rattle.buffers.specs.Disks.{ReadsOn}
use Rattle.buffers.specs.declared.block_cache.BlockCache.{BlockCache}
use Rattle.blockmap.specs.Changes.{SwitchesTo}
use Rattle.blockmap.specs.Maps.{entry_at}
use Rattle.blockmap.specs.declared.map.BlockMap.{BlockMap}
use Rattle.images.specs.Roots.{whole}
use Rattle.images.specs.SnapshotSteps.{unchanged}
use Rattle.descriptors.specs.Fits.{FitsVolume}
use Rattle.descriptors.specs.Tables.{table_of}
use Rattle.descriptors.specs.declared.table.Descriptors.{Descriptors}
use Rattle.oplog.specs.LogEnd.{LogEnd}
use Rattle.oplog.specs.declared.log.End.TheVariants.{Unopened}
use Rattle.conspoint.specs.Cuts.{HasNewRoot, HasRootOrLost, StaysOutside}
use Rattle.conspoint.specs.Finished.{disk_after}
use Rattle.conspoint.specs.Plans.{IsPlanned, Planned}
use Rattle.conspoint.specs.declared.plan.PlannedBlock.{PlannedBlock}
use Rattle.overlay.specs.Overlays.{ShowsOver, planned_disk}
use Rattle.overlay.specs.declared.pending.PendingPoint.{PendingPoint}
use Rattle.system.specs.Counting.{Counted, LogsNothing, SameNvram}
use Rattle.system.specs.Errors.{IsNotWritten}
use Rattle.system.specs.Images.{IsLeft, IsUnder, Lasts, OpensTo}
use Rattle.system.specs.Laws.{CutLaws, RootLaws}
use Rattle.system.specs.Memory.{HasEntries, HasEntriesToCome, IsInMemory}
use Rattle.system.specs.Slicing.{IsPending, step_failed}
use Rattle.system.specs.Systems.{HasState, IsComing, IsServing, Parts, disk_of, disk_over, meaning_of, state_with}
use Rattle.system.specs.UnderWay.{IsUnderWay, WayLaws, base_to_come}
use Rattle.system.specs.declared.error.PointError.{PointError}
use Rattle.system.specs.Views.{ShowsSnapshot}
use Rattle.system.specs.declared.snapshot_view.View.{View}
use Rattle.system.specs.declared.system.System.{System}
use Rattle.system.proofs.SystemLaws.{at_rest, its_sizes}
use Rattle.system.proofs.UnderWayLaws.{begins, disk_is, ends_left, lasts_older, lasts_to_come, left_older, points_open, same_to_come, slice_left, slices_keep, slices_open}

-- whether a point is under way, as it is asked for
pub none_pending : (o : Option PendingPoint) (b : Bool) → IsTrue b ↔ (o ≢ None) → IsFalse b → o ≡ None
none_pending None b told not_so = refl
none_pending (Some pending) b told not_so = absurd (false≢true (sym not_so ∙ told.1 (λ is. cc)))

-- a system serves with a point under way
pub coming_of : {m : Meaning} {k : Parts} {table : ℕ → Option Description} {s : State} (serves : IsServing m k table s) → k.pending ≢ None
    → IsComing m k.log k.pending k.root k.slot serves.first k.map serves.lasts k.pledged_then
coming_of serves some = elim serves.bridge [ inl rests ↦ absurd (some rests.none) | inr coming ↦ coming ]

-- nothing was written
pub wrote_nothing : {T E : Type 0} (IsFault : E → Type 0) (m : Meaning) (x : T) → OnlyWrites {T = T} {E = E} IsFault m m (Ok x)
wrote_nothing IsFault m x = record { same = same_none m; reads = refl; writes = inl refl; ok = refl; fault = tt }

-- blocks were written
pub wrote : {T : Type 0} (m n : Meaning) (r : Result T PointError) → OnlyWrites {T = T} {E = PointError} IsNotWritten m n r → IfErr r IsNotWritten → Counted m n (step_failed r)
wrote m n (Ok x) writes why = record { uses = record { same = writes.same; reads = inl writes.reads; writes = writes.writes }; reads = tt; writes = writes.ok }
wrote m n (Err e) writes why = record { uses = record { same = writes.same; reads = inl writes.reads; writes = writes.writes }; reads = tt; writes = writes.fault why }

-- outside the places of a point the NVRAM stays
pub slice_unlogged : (m now : Meaning) (blocks : List PlannedBlock) → Goes (StaysOutside blocks) m now → LogsNothing m now
slice_unlogged m now blocks goes =
    goes_on m m now (StaysOutside blocks) (After SameNvram m) (started m (After SameNvram m) (λ honest c here. (c, here, refl))) goes (λ c after. (after.0, after.1, after.2.nvram))

-- a point that is carried out writes no NVRAM
pub carried_unlogged : (m now : Meaning) (p : Planned) → (m.is_honest → MayLeave m m.seen)
    → LeavesOnly m now (λ c. After (StaysOutside p.blocks) m c ⊎ HasRootOrLost p m.seen c) → LogsNothing m now
carried_unlogged m now p here writes honest =
    weaker m now (λ c. After (StaysOutside p.blocks) m c ⊎ HasRootOrLost p m.seen c) (After SameNvram m) writes (λ c one. elim one [
      | inl stays ↦ (stays.0, stays.1, stays.2.nvram)
      | inr began ↦ (m.seen, here honest, elim began [ inl has ↦ has.nvram | inr loses ↦ loses.nvram ])
    ]) honest

module _ (laws : CutLaws) (ways : WayLaws) {m : Meaning} {k : Parts} {table : ℕ → Option Description} {s : State} (serves : IsServing m k table s)
    (size : m.sectors ≡ 8 * k.root.geometry.blocks) (half : k.log.half ≡ k.root.geometry.half)
    (coming : IsComing m k.log k.pending k.root k.slot serves.first k.map serves.lasts k.pledged_then) (now : Meaning) where
  abbrev plan : Planned
  plan = coming.point.plan

  pub over_plan : disk_over k m.seen.disk ≡ disk_after plan m.seen.disk
  over_plan = ap (λ (l : Option PendingPoint). planned_disk l m.seen.disk) coming.is

  -- ---- so many more blocks are written

  module _ (goes : Goes (StaysOutside plan.blocks) m now) where
    pub slice_leaves : LeavesOnly m now (OpensTo m s)
    slice_leaves = slices_open laws serves.left coming.way serves.honest now goes (its_sizes serves size half)

    abbrev pub sliced : (n : ℕ) → n ≤ length plan.blocks → (pending : PendingPoint) → pending.plan ≡ record plan { written = n } → now.is_honest → (now_kept : BlockCache)
        → ShowsOver now now_kept (Some pending) (blocks_of (disk_over k m.seen.disk)) → IsServing now (record k { kept = now_kept; pending = Some pending }) table s
    sliced n most pending is honest now_kept shown =
        let stays : disk_after plan now.seen.disk ≡ disk_after plan m.seen.disk = ways.stays plan m.seen now.seen coming.sound (goes serves.honest).seen in
        let same : disk_after plan m.seen.disk ≡ disk_after pending.plan now.seen.disk = sym stays ∙ ap (λ (p : Planned). disk_after p now.seen.disk) (sym is) in
        let disk : disk_over k m.seen.disk ≡ disk_after pending.plan now.seen.disk = over_plan ∙ same in
        record {
          honest = honest;
          shows = subst (λ (d : ℕ → Sector). ShowsOver now now_kept (Some pending) (blocks_of d)) disk shown;
          first = serves.first;
          snapshots = serves.snapshots;
          under = subst (IsUnder k.slot k.root serves.first serves.snapshots) disk serves.under;
          running = serves.running;
          mounted = serves.mounted;
          memory = subst (λ (d : ℕ → Sector). IsInMemory (blocks_of d) k.root k.inodes serves.running) disk serves.memory;
          view = subst (λ (d : ℕ → Sector). ShowsSnapshot (blocks_of d) k.root.geometry serves.snapshots k.view) disk serves.view;
          settled = serves.settled;
          lasts = serves.lasts;
          left = slice_left laws serves.left coming.way serves.honest now goes;
          entries = serves.entries;
          bridge = inr (record {
            point = pending;
            is = refl;
            way = subst (λ (p : Planned). IsUnderWay now k.log serves.lasts (record { plan = p; root = k.root; volume = serves.first; pledged = k.pledged_then })) (sym is)
                (slices_keep laws serves.left coming.way serves.honest now goes n);
            sound = subst IsPlanned (sym is) (record { blocks = coming.sound.blocks; written = most; slot = coming.sound.slot; root = coming.sound.root });
            place = coming.place ∙ ap (λ (p : Planned). p.slot) (sym is);
            to_come = subst (λ (d : ℕ → Sector). HasEntriesToCome (whole (blocks_of d) k.root).active k.map) same coming.to_come;
          });
          goes = serves.goes;
          stored = serves.stored;
          opened = serves.opened;
          fits = serves.fits;
          state = serves.state;
        }

  -- ---- the point ends

  module _ (roots : RootLaws) (here : MayLeave m m.seen) where
    pub end_leaves : LeavesOnly m now (λ c. After (StaysOutside plan.blocks) m c ⊎ HasRootOrLost plan m.seen c) → LeavesOnly m now (OpensTo m s)
    end_leaves = points_open laws serves.left coming.way roots ways serves.honest here (its_sizes serves size half) now

    abbrev pub ended : IsSameStation m now → now.is_honest → HasNewRoot plan m.seen now.seen → ((n : ℕ) → n < now.sectors → IsSector (now.seen.disk n)) → LeavesJust now now.seen
        → (now_kept : BlockCache) → ShowsOver now now_kept None (blocks_of (disk_over k m.seen.disk)) → (now_map : BlockMap) → SwitchesTo (entry_at k.map.parts.items) k.map now_map
        → IsServing now (record k { kept = now_kept; pending = None; map = now_map; pledged = k.pledged_then }) table s
    ended station honest has sized just now_kept shown now_map settles =
        let are = its_sizes serves size half in
        let then = base_to_come (record { plan = plan; root = k.root; volume = serves.first; pledged = k.pledged_then }) serves.settled in
        let is : now.seen.disk ≡ then.disk = disk_is laws serves.left coming.way roots ways serves.honest here are coming.sound now station has sized in
        let same : disk_after plan m.seen.disk ≡ now.seen.disk = same_to_come laws serves.left coming.way roots ways serves.honest here are coming.sound ∙ sym is in
        let disk : disk_over k m.seen.disk ≡ now.seen.disk = over_plan ∙ same in
        let Lasting = λ (d : ℕ → Sector). (lasts : Lasts (record { disk = d; root = k.root; volume = serves.first }) serves.snapshots k.pledged_then serves.running)
        × EachCut now (IsLeft k.root k.log lasts.bodies d) in
        let lasting = subst Lasting (sym is) (
          lasts_to_come laws serves.left coming.way roots ways serves.honest here are coming.sound,
          ends_left laws serves.left coming.way roots ways serves.honest here are coming.sound now station has sized just,
        ) in
        record {
          honest = honest;
          shows = subst (λ (d : ℕ → Sector). ShowsOver now now_kept None (blocks_of d)) disk shown;
          first = serves.first;
          snapshots = serves.snapshots;
          under = subst (IsUnder k.slot k.root serves.first serves.snapshots) disk serves.under;
          running = serves.running;
          mounted = serves.mounted;
          memory = subst (λ (d : ℕ → Sector). IsInMemory (blocks_of d) k.root k.inodes serves.running) disk serves.memory;
          view = subst (λ (d : ℕ → Sector). ShowsSnapshot (blocks_of d) k.root.geometry serves.snapshots k.view) disk serves.view;
          settled = record { disk = now.seen.disk; root = k.root; volume = serves.first };
          lasts = lasting.0;
          left = lasting.1;
          entries = subst (λ (d : ℕ → Sector). HasEntries (whole (blocks_of d) k.root).active now_map) same (λ b. settles.settled b ∙ coming.to_come b);
          bridge = inl (record { none = refl; base = refl; all = refl });
          goes = serves.goes;
          stored = serves.stored;
          opened = serves.opened;
          fits = serves.fits;
          state = serves.state;
        }

-- ---- a point is laid over the blocks

-- where the log was in the first epoch over the root, the system serves what it did, with that point under way
abbrev pub pending_serves : {S : Type 0} {G : Ghosts S} (old new : System S G) (table : ℕ → Option Description) (s : State) (serves : HasState old table s) → old.blocks.pending ≡ None
    → old.log.epoch ≡ old.root.generation + 1 → ReadsOn (meaning_of old) (meaning_of new) → new.log ≡ record old.log { epoch = old.log.epoch + 1; end = Unopened }
    → new.pledged ≡ old.pledged → new.files ≡ old.files → new.session ≡ old.session → IsPending unchanged old new old.inodes table s serves serves.first serves.running → HasState new table s
pending_serves old new table s serves none first reads log pledged files said pending =
    let m = meaning_of old in
    let now = meaning_of new in
    let went = reads.goes serves.honest in
    let rest = at_rest serves none in
    let seen : now.seen.disk ≡ m.seen.disk = ap (λ (i : Images). i.disk) went.seen in
    let second : new.log.epoch ≡ old.root.generation + 2 = omega (arith, ap (λ (l : LogEnd). l.epoch) log, first) in
    let lasts = lasts_older rest.lasts in
    let Pledging = λ (n : ℕ). (lasts : Lasts (record { disk = m.seen.disk; root = old.root; volume = serves.first }) serves.snapshots n serves.running)
    × EachCut now (IsLeft old.root new.log lasts.bodies m.seen.disk)
    × IsUnderWay now new.log lasts (record { plan = pending.pending.plan; root = new.root; volume = serves.running; pledged = new.pledged_then }) in
    let lasting = subst Pledging (sym pledged) (
      lasts,
      each_unchanged m now (IsLeft old.root new.log lasts.bodies m.seen.disk) reads.same (left_older rest.lasts m rest.left new.log (λ nvram stands. pending.newer old.root.generation rest.lasts.bodies nvram first stands)) reads.goes,
      begins rest.lasts now {log = old.log}
          (each_unchanged m now (IsLeft old.root old.log rest.lasts.bodies m.seen.disk) reads.same rest.left reads.goes)
          new.log old.slot pending.pending.plan new.root new.pledged_then seen first second pending.planned pending.pledges (pending.saves refl (omega (arith, serves.stored, rest.all))),
    ) in
    record {
      honest = went.honest;
      shows = pending.shows;
      first = serves.running;
      snapshots = serves.snapshots;
      under = pending.under;
      running = serves.running;
      mounted = serves.mounted;
      memory = pending.memory;
      view = subst (λ (o : Option View). ShowsSnapshot (blocks_of (disk_of new)) new.root.geometry serves.snapshots o) (sym pending.viewless) tt;
      settled = record { disk = m.seen.disk; root = old.root; volume = serves.first };
      lasts = lasting.0;
      left = lasting.1;
      entries = pending.entries;
      bridge = inr (record {
        point = pending.pending;
        is = pending.is;
        way = lasting.2;
        sound = pending.sound;
        place = pending.slot;
        to_come = subst (λ (l : Option PendingPoint). HasEntriesToCome (whole (blocks_of (planned_disk l now.seen.disk)) new.root).active new.map) pending.is pending.to_come;
      });
      goes = ap (λ (l : LogEnd). l.is_stopped) log ∙ serves.goes;
      stored = pending.stored;
      opened = serves.opened ∙ ap table_of (sym files);
      fits = subst (λ (d : Descriptors). FitsVolume d serves.running) (sym files) serves.fits;
      state = serves.state ∙ ap (λ (g : Sizes). state_with (limits_of g) old.session serves.running table serves.snapshots) (sym pending.planned.point.geometry)
          ∙ ap (λ (x : Session). state_with (limits_of new.root.geometry) x serves.running table serves.snapshots) (sym said);
    }
