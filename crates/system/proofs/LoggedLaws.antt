-- A system whose log gets a record more.
use Rattle.std.proofs.Common.{◌≡◌, ◌⊎◌, inl, inr, ℕ, ◌+◌, ◌*◌, ◌≤◌, List, [], ◌∷◌, ◌++◌, Option, refl, ap, sym, subst, ◌∙◌, append_assoc, arith}
use Rattle.std.specs.Prelude.{IsFalse}
use Rattle.std.proofs.lemmas.List.{map-append}
use Rattle.std.proofs.lemmas.List.Elements.{All-push}
use Rattle.model.specs.declared.limits.Limits.{Limits}
use Rattle.layout.specs.StateLimits.{limits_of, fixed_of}
use Rattle.station.specs.Images.{Images, Sector}
use Rattle.station.specs.declared.station.Station.{Ghosts}
use Rattle.station.specs.Moments.{Meaning, EachCut, IsSameStation, KeepsDisk, LeavesOnly, MayLeave}
use Rattle.station.proofs.Moments.{weaker}
use Rattle.layout.specs.Limits.{Sizes}
use Rattle.layout.specs.Places.{blocks_of}
use Rattle.layout.specs.Record.{Change, IsChange, change_bytes}
use Rattle.model.specs.Paths.{Name}
use Rattle.model.specs.Records.{Applies, Extends, Replays, applied, work_of}
use Rattle.model.specs.Room.{cost}
use Rattle.model.specs.States.{State}
use Rattle.model.specs.Trees.{Description, Tree}
use Rattle.model.specs.Volumes.{Volume, IsVolume, swept}
use Rattle.buffers.specs.declared.cache.Buffers.{Buffers}
use Rattle.buffers.proofs.DiskLaws.{still_shows}
use Rattle.conspoint.specs.Finished.{disk_after}
use Rattle.overlay.specs.Overlays.{FitsOver, HoldsHere, ShowsOver}
use Rattle.overlay.specs.Props.{FitsOver-prop, HoldsHere-prop}
use Rattle.overlay.specs.declared.pending.PendingPoint.{PendingPoint}
use Rattle.overlay.specs.declared.overlay.Overlay.{Overlay}
use Rattle.overlay.proofs.OverlayLaws.{over_still}
use Rattle.inofile.specs.Volumes.{IsVolumeOf}
use Rattle.descriptors.specs.Fits.{FitsVolume}
use Rattle.descriptors.specs.Tables.{table_of}
use Rattle.descriptors.specs.declared.table.Descriptors.{Descriptors}
use Rattle.inofile.specs.declared.inode_file.InodeFile.{InodeFile}
use Rattle.images.specs.Roots.{whole}
use Rattle.images.specs.Room.{free_under}
use Rattle.images.specs.States.{HasReserve, SameButFree}
use Rattle.inofile.specs.Room.{memory_room}
use Rattle.loading.specs.Images.{inodes_of}
use Rattle.oplog.specs.LogEnd.{Bodies, LogEnd, LogStands, ReadsDisk, StandsAt, WithOrWithout, with_body}
use Rattle.system.specs.Images.{Base, IsReplayed, IsUnder, Lasts, OpensTo}
use Rattle.system.specs.Laws.{CutLaws, RecordLaws}
use Rattle.system.specs.Memory.{HasEntriesToCome, IsInMemory}
use Rattle.system.specs.Logging.{Advances}
use Rattle.system.specs.Views.{ShowsSnapshot}
use Rattle.system.specs.Systems.{Parts, IsServing, IsServingWith, disk_over, state_with}
use Rattle.system.specs.UnderWay.{IsUnderWay, Way}
use Rattle.system.proofs.RoomLaws.{one_pledged}
use Rattle.system.proofs.SystemLaws.{its_sizes, same_open, sized, sizes}

-- one record more is replayed
pub replays_more : (limits : Limits) (v : Volume) (changes : List Change) (w : Volume) (c : Change) → Replays limits v changes w → Applies limits w c → Replays limits v (changes ++ c ∷ []) (applied c w)
replays_more limits v [] w c is applies = (subst (λ (u : Volume). Applies limits u c) is applies, ap (applied c) is)
replays_more limits v (d ∷ ds) w c rest applies = (rest.0, replays_more limits (applied d v) ds w c rest.1 applies)

-- and it is spelled behind the others
abbrev pub replayed_more : {limits : Limits} {bodies : Bodies} {first running : Volume} → RecordLaws → (was : IsReplayed limits bodies first running) → (table : ℕ → Option Description) (change : Change)
    → IsChange limits.has_attributes change → Applies limits running change → IsReplayed limits (with_body bodies (change_bytes change)) first (swept table (applied change running))
replayed_more {limits} {bodies} {first} {running} records was table change is applies =
    let follows = records.follow limits running was.last table change was.extends applies in
    record {
      changes = was.changes ++ change ∷ [];
      are = All-push (IsChange limits.has_attributes) was.changes change was.are is;
      spelled = sym (append_assoc bodies.older bodies.newest (change_bytes change ∷ [])) ∙ ap (λ (l : List (List ℕ)). l ++ change_bytes change ∷ []) was.spelled
          ∙ sym (map-append change_bytes was.changes (change ∷ []));
      last = applied change was.last;
      replays = replays_more limits first was.changes was.last change was.replays follows.0;
      extends = follows.1;
    }

-- ---- what outlasts a cut

-- it costs the replayed volume what it costs the running one
pub costs_replayed : RecordLaws → (limits : Limits) (running last : Volume) (change : Change) (n : ℕ) → Extends running last → Applies limits running change → n ≡ cost limits.costs (work_of running change)
    → n ≡ cost limits.costs (work_of last change)
costs_replayed records limits running last change n extends applies is = is ∙ ap (cost limits.costs) (sym (records.costs limits running last change extends applies))

-- a record more is replayed, and its cost is pledged
abbrev pub lasts_more : (records : RecordLaws) {base : Base} {snapshots : List (Name × Tree)} {pledged : ℕ} {running : Volume} (lasts : Lasts base snapshots pledged running)
    (table : ℕ → Option Description) (change : Change) → IsChange (limits_of base.root.geometry).has_attributes change → Applies (limits_of base.root.geometry) running change
    → (n : ℕ) → n ≡ cost (limits_of base.root.geometry).costs (work_of running change)
    → HasReserve base.root (whole (blocks_of base.disk) base.root) base.volume (lasts.replayed.changes ++ change ∷ []) → Lasts base snapshots (pledged + n) (swept table (applied change running))
lasts_more records {base} {snapshots} {pledged} {running} lasts table change is applies n costs_it reserved = record {
  newest = lasts.newest;
  holds = lasts.holds;
  bodies = with_body lasts.bodies (change_bytes change);
  replayed = replayed_more records lasts.replayed table change is applies;
  pledges = one_pledged (limits_of base.root.geometry) base.volume lasts.replayed.changes lasts.replayed.last change pledged n lasts.replayed.replays
      (costs_replayed records (limits_of base.root.geometry) running lasts.replayed.last change n lasts.replayed.extends applies costs_it) lasts.pledges;
  reserved = reserved;
}

-- a record is in the log while a point is under way: what it may cost is pledged behind the point, too
pub records_keep : {settled : Base} {snapshots : List (Name × Tree)} {pledged : ℕ} {running : Volume} {old : Meaning} {log : LogEnd} {w : Way} (records : RecordLaws) (lasts : Lasts settled snapshots pledged running)
    (table : ℕ → Option Description) (change : Change) (is : IsChange (limits_of settled.root.geometry).has_attributes change) (applies : Applies (limits_of settled.root.geometry) running change) (n : ℕ) (costs : n ≡ cost (limits_of settled.root.geometry).costs (work_of running change))
    (reserved : HasReserve settled.root (whole (blocks_of settled.disk) settled.root) settled.volume (lasts.replayed.changes ++ change ∷ []))
    → IsUnderWay old log lasts w → (now : Meaning) (next : LogEnd) → next.epoch ≡ log.epoch → now.seen.disk ≡ old.seen.disk
    → IsUnderWay now next (lasts_more records lasts table change is applies n costs reserved) (record w { pledged = w.pledged + n })
records_keep {settled} {running = running} {w = w} records lasts table change is applies n costs reserved way now next epoch disk = record {
  slot = way.slot;
  planned = way.planned;
  epoch = epoch ∙ way.epoch;
  stays = record { nvram = refl; disk = λ n out. ap (λ (d : ℕ → Sector). d n) disk ∙ way.stays.disk n out };
  since = replayed_more records way.since table change is applies;
  pledges = one_pledged (limits_of settled.root.geometry) w.volume way.since.changes way.since.last change w.pledged n way.since.replays
      (costs_replayed records (limits_of settled.root.geometry) running way.since.last change n way.since.extends applies costs) way.pledges;
  saves = omega (arith, way.saves);
}

-- ---- the blocks

-- those of the same buffers, with the same point under way, are the same
pub same_overlay : {S : Type 0} {G : Ghosts S} (a b : Overlay S G) → a.buffers ≡ b.buffers → a.pending ≡ b.pending → a ≡ b
same_overlay {S} {G} a b buffers pending =
    let Same = λ (x : Buffers S). λ (l : Option PendingPoint). (f : FitsOver (G.meaning x.station).sectors l) (w : HoldsHere (G.meaning x.station) l) → a ≡ record { buffers = x; pending = l; fits = f; written = w } in
    subst (Same b.buffers) pending (subst (λ (x : Buffers S). Same x a.pending) buffers (λ f w i. record {
      buffers = a.buffers;
      pending = a.pending;
      fits = FitsOver-prop (G.meaning a.buffers.station).sectors a.pending a.fits f i;
      written = HoldsHere-prop (G.meaning a.buffers.station) a.pending a.written w i;
    })) b.fits b.written

-- ---- the system

module _ (laws : CutLaws) (records : RecordLaws) {m : Meaning} {k : Parts} {table : ℕ → Option Description} {s : State} (serves : IsServing m k table s) (change : Change)
    (advances : Advances (limits_of k.root.geometry) serves.running table change) where
  -- the volume that the record leads to
  abbrev pub volume_after : Volume
  volume_after = swept table (applied change serves.running)

  pub applies : Applies (limits_of serves.settled.root.geometry) serves.running change
  applies = subst (λ (g : Sizes). Applies (limits_of g) serves.running change) (sym (sizes serves)) advances.applies

  pub is_change : IsChange (limits_of serves.settled.root.geometry).has_attributes change
  is_change = subst (λ (g : Sizes). IsChange (limits_of g).has_attributes change) (sym (sizes serves)) advances.is

  -- what it costs by the settled root
  pub costs_settled : (n : ℕ) → n ≡ cost (limits_of k.root.geometry).costs (work_of serves.running change) → n ≡ cost (limits_of serves.settled.root.geometry).costs (work_of serves.running change)
  costs_settled n is = is ∙ ap (λ (g : Sizes). cost (limits_of g).costs (work_of serves.running change)) (sym (sizes serves))

  pub volume : IsVolume (limits_of k.root.geometry) volume_after
  volume = records.sweeps (limits_of k.root.geometry) (applied change serves.running) table
      (records.volumes (limits_of k.root.geometry) serves.running change serves.memory.volume advances.applies)

  -- the state that the record leads to
  abbrev pub state_after : State
  state_after = state_with (limits_of k.root.geometry) k.session volume_after table serves.snapshots

  -- the log before it
  pub log_stands : LogStands m k.log serves.settled.root.generation serves.lasts.bodies
  log_stands honest c left = (serves.left honest c left).log_stands

  -- what is reserved with it
  abbrev pub Reserved : Type 0
  Reserved = HasReserve serves.settled.root (whole (blocks_of serves.settled.disk) serves.settled.root) serves.settled.volume (serves.lasts.replayed.changes ++ change ∷ [])

  -- where the disk has room for it
  pub reserves : (free n : ℕ) → n ≡ cost (limits_of k.root.geometry).costs (work_of serves.running change)
      → k.pledged + cost (limits_of k.root.geometry).costs (work_of serves.running change) + fixed_of k.root.geometry.blocks ≤ free
      → free ≡ free_under (whole (blocks_of serves.settled.disk) serves.settled.root).active serves.settled.root.geometry.blocks → Reserved
  reserves free n costs_it room is =
      let replayed = serves.lasts.replayed in
      let limits = limits_of serves.settled.root.geometry in
      omega (
        arith,
        one_pledged limits serves.settled.volume replayed.changes replayed.last change k.pledged n replayed.replays
            (costs_replayed records limits serves.running replayed.last change n replayed.extends applies (costs_settled n costs_it)) serves.lasts.pledges,
        room,
        costs_it,
        is,
        ap (λ (g : Sizes). fixed_of g.blocks) (sizes serves),
      )

  pub same_disk : (c : Images) → (d : Images) → MayLeave m d → c.disk ≡ d.disk → SameButFree serves.settled.root serves.settled.disk c.disk
  same_disk c d left is n some = ap (λ (e : ℕ → Sector). e n) is ∙ (serves.left serves.honest d left).same n some

  module _ (n : ℕ) (costs_it : n ≡ cost (limits_of k.root.geometry).costs (work_of serves.running change)) (reserved : Reserved) where
    abbrev lasts_after : Lasts serves.settled serves.snapshots (k.pledged + n) volume_after
    lasts_after = lasts_more records serves.lasts table change is_change applies n (costs_settled n costs_it) reserved

    -- while it is put into the log
    pub at_any_moment : m.sectors ≡ 8 * k.root.geometry.blocks → k.log.half ≡ k.root.geometry.half
        → (now : Meaning) → LeavesOnly m now (KeepsDisk m (WithOrWithout k.log.half serves.settled.root.generation serves.lasts.bodies (change_bytes change)))
        → LeavesOnly m now (λ c. OpensTo m s c ⊎ OpensTo m state_after c)
    at_any_moment size half now leaves =
        let after = sized serves {log = k.log} (record { sectors = size; half = half; volume = volume; said = k.session; state = refl }) in
        weaker m now (KeepsDisk m (WithOrWithout k.log.half serves.settled.root.generation serves.lasts.bodies (change_bytes change))) (λ c. OpensTo m s c ⊎ OpensTo m state_after c) leaves (λ c keeps. elim keeps.3 [
          | inl without ↦ inl (same_open laws serves.lasts (its_sizes serves size half) c (same_disk c keeps.0 keeps.1 keeps.2) without)
          | inr with_it ↦ inr (same_open laws lasts_after after c (same_disk c keeps.0 keeps.1 keeps.2) with_it)
        ])

    -- once it is there, and memory follows
    abbrev pub logged : (now : Meaning) (now_log : LogEnd) → now_log.epoch ≡ k.log.epoch → ((disk : ℕ → Sector) → ReadsDisk m disk → ReadsDisk now disk) → IsSameStation m now
        → EachCut now (KeepsDisk m (StandsAt now_log serves.settled.root.generation (with_body serves.lasts.bodies (change_bytes change)))) → IsFalse now_log.is_stopped
        → (now_inodes : InodeFile) (now_files : Descriptors)
        → IsVolumeOf k.root.geometry.blocks (blocks_of (disk_over k m.seen.disk)) (inodes_of (whole (blocks_of (disk_over k m.seen.disk)) k.root).active) now_inodes volume_after
        → memory_room serves.first now_inodes volume_after ≤ k.pledged_then + n → table ≡ table_of now_files → FitsVolume now_files volume_after
        → IsServingWith now (record k { inodes = now_inodes; log = now_log; pledged = k.pledged + n; pledged_then = k.pledged_then + n; files = now_files }) table state_after volume_after
        (serves.lasts.replayed.changes ++ change ∷ [])
    logged now now_log epoch disks same appended goes now_inodes now_files stands stored opened fits =
        let there = disks m.seen.disk (serves.honest, refl) in
        let seen : m.seen.disk ≡ now.seen.disk = sym there.1 in
        let disk : disk_over k m.seen.disk ≡ disk_over k now.seen.disk = ap (disk_over k) seen in
        let serving : IsServing now (record k { inodes = now_inodes; log = now_log; pledged = k.pledged + n; pledged_then = k.pledged_then + n; files = now_files }) table state_after = record {
          honest = there.0;
          shows = subst (λ (d : ℕ → Sector). ShowsOver now k.kept k.pending (blocks_of d)) disk
              (over_still m now k.kept k.kept k.pending (blocks_of (disk_over k m.seen.disk)) there.1 (λ d. still_shows m now k.kept d there.0 same.sectors there.1) serves.shows);
          first = serves.first;
          snapshots = serves.snapshots;
          under = subst (IsUnder k.slot k.root serves.first serves.snapshots) disk serves.under;
          running = volume_after;
          mounted = advances.mounted;
          memory = subst (λ (d : ℕ → Sector). IsInMemory (blocks_of d) k.root now_inodes volume_after) disk (record { stands = stands; volume = volume });
          view = subst (λ (d : ℕ → Sector). ShowsSnapshot (blocks_of d) k.root.geometry serves.snapshots k.view) disk serves.view;
          settled = serves.settled;
          lasts = lasts_after;
          left = λ honest c left.
              let keeps = appended honest c left in
              record { same = same_disk c keeps.0 keeps.1 keeps.2; log_stands = keeps.3 };
          entries = serves.entries;
          bridge = elim serves.bridge [
            | inl rests ↦ inl (record { none = rests.none; base = rests.base ∙ (λ i. record { disk = seen i; root = k.root; volume = serves.first }); all = ap (λ (p : ℕ). p + n) rests.all })
            | inr coming ↦ inr (record {
              point = coming.point;
              is = coming.is;
              way = records_keep records serves.lasts table change is_change applies n (costs_settled n costs_it) reserved coming.way now now_log epoch (sym seen);
              sound = coming.sound;
              place = coming.place;
              to_come = subst (λ (d : ℕ → Sector). HasEntriesToCome (whole (blocks_of (disk_after coming.point.plan d)) k.root).active k.map) seen coming.to_come;
            })
          ];
          goes = goes;
          stored = stored;
          opened = opened;
          fits = fits;
          state = refl;
        } in
        record { serves = serving; volume = refl; records = refl }
