-- A system that is ahead of what a cut leaves: how it comes to be, goes on, and ends.
use Rattle.std.proofs.Common.{◌≡◌, ◌⊎◌, inl, inr, ℕ, ◌+◌, ◌*◌, ◌≤◌, List, [], ◌∷◌, ◌++◌, Option, refl, ap, sym, subst, ◌∙◌, append_assoc, arith, length, length-append}
use Rattle.std.specs.Prelude.{IsFalse, map}
use Rattle.std.proofs.lemmas.List.{append-nil, map-append}
use Rattle.layout.specs.StateLimits.{limits_of}
use Rattle.station.specs.Images.{Images, Sector}
use Rattle.station.specs.Moments.{Meaning, EachCut, IsSameStation, KeepsDisk, LeavesOnly, MayLeave}
use Rattle.station.proofs.Moments.{same_none, started, weaker}
use Rattle.layout.specs.Log.{LogHolds, record_of, records_of}
use Rattle.layout.specs.Places.{blocks_of}
use Rattle.layout.specs.Record.{Change, change_bytes}
use Rattle.model.specs.Paths.{Name}
use Rattle.model.specs.Records.{applied, work_of}
use Rattle.model.specs.Room.{cost}
use Rattle.model.specs.States.{State}
use Rattle.model.specs.Trees.{Description, Tree}
use Rattle.model.specs.Volumes.{Volume, swept}
use Rattle.buffers.specs.declared.block_cache.BlockCache.{BlockCache}
use Rattle.buffers.proofs.DiskLaws.{still_shows}
use Rattle.conspoint.specs.Finished.{disk_after}
use Rattle.overlay.specs.Overlays.{ReadsOver, ShowsOver}
use Rattle.overlay.specs.declared.pending.PendingPoint.{PendingPoint}
use Rattle.overlay.proofs.OverlayLaws.{over_still}
use Rattle.inofile.specs.Volumes.{IsVolumeOf}
use Rattle.inofile.specs.Room.{NeedsNoMore, memory_room}
use Rattle.inofile.specs.declared.inode_file.InodeFile.{InodeFile}
use Rattle.descriptors.specs.Fits.{FitsVolume}
use Rattle.descriptors.specs.Tables.{table_of}
use Rattle.descriptors.specs.declared.table.Descriptors.{Descriptors}
use Rattle.images.specs.Roots.{whole}
use Rattle.images.specs.States.{SameButFree}
use Rattle.loading.specs.Images.{inodes_of}
use Rattle.oplog.specs.Batches.{IsBatchOf}
use Rattle.oplog.specs.LogEnd.{AllOrNone, Bodies, LogEnd, LogStands, ReadsDisk, StandsAt, all_bodies, with_bodies, with_body}
use Rattle.oplog.proofs.Records.{length-behind, length-record_of}
use Rattle.system.specs.Ahead.{IsAhead, uncut}
use Rattle.system.specs.Images.{Base, IsLeft, IsUnder, Lasts, OpensTo}
use Rattle.system.specs.Laws.{CutLaws, RecordLaws}
use Rattle.system.specs.Logging.{Advances}
use Rattle.system.specs.Memory.{HasEntriesToCome, IsInMemory}
use Rattle.system.specs.Serving.{LeavesEither}
use Rattle.system.specs.Systems.{IsServing, Parts, disk_over, state_with}
use Rattle.system.specs.UnderWay.{IsUnderWay, Way}
use Rattle.system.specs.Views.{ShowsSnapshot}
use Rattle.system.specs.Waits.{Waits, none_waits}
use Rattle.system.proofs.LoggedLaws.{Reserved, logged}
use Rattle.system.proofs.RoomLaws.{free_of}
use Rattle.system.proofs.SystemLaws.{OverRoot, all_open, its_sizes, opens_same, read_into, same_open}

-- ---- on another station

-- a point that is under way is so on another station that reads the same disk, with another end of the log
way_at : {m : Meaning} {log : LogEnd} {settled : Base} {snapshots : List (Name × Tree)} {pledged : ℕ} {running : Volume} {lasts : Lasts settled snapshots pledged running} {w : Way} (now : Meaning) (now_log : LogEnd)
    → now_log.epoch ≡ log.epoch → now.seen.disk ≡ m.seen.disk → IsUnderWay m log lasts w → IsUnderWay now now_log lasts w
way_at now now_log epoch disk way = record {
  slot = way.slot;
  planned = way.planned;
  epoch = epoch ∙ way.epoch;
  stays = record { nvram = refl; disk = λ n out. ap (λ (d : ℕ → Sector). d n) disk ∙ way.stays.disk n out };
  since = way.since;
  pledges = way.pledges;
  saves = way.saves;
}

-- so a state is served there, where what a cut leaves of it has the records
abbrev served_at : {m : Meaning} {k : Parts} {table : ℕ → Option Description} {s : State} (serves : IsServing m k table s) (now : Meaning) (now_log : LogEnd)
    → now_log.epoch ≡ k.log.epoch → now.is_honest → now.seen.disk ≡ m.seen.disk → now.sectors ≡ m.sectors
    → EachCut now (IsLeft serves.settled.root now_log serves.lasts.bodies serves.settled.disk) → IsFalse now_log.is_stopped → IsServing now (record k { log = now_log }) table s
served_at {m} {k} {table} {s} serves now now_log epoch honest there sectors left goes =
    let seen : m.seen.disk ≡ now.seen.disk = sym there in
    let disk : disk_over k m.seen.disk ≡ disk_over k now.seen.disk = ap (disk_over k) seen in
    record {
      honest = honest;
      shows = subst (λ (d : ℕ → Sector). ShowsOver now k.kept k.pending (blocks_of d)) disk
          (over_still m now k.kept k.kept k.pending (blocks_of (disk_over k m.seen.disk)) there (λ d. still_shows m now k.kept d honest sectors there) serves.shows);
      first = serves.first;
      snapshots = serves.snapshots;
      under = subst (IsUnder k.slot k.root serves.first serves.snapshots) disk serves.under;
      running = serves.running;
      mounted = serves.mounted;
      memory = subst (λ (d : ℕ → Sector). IsInMemory (blocks_of d) k.root k.inodes serves.running) disk serves.memory;
      view = subst (λ (d : ℕ → Sector). ShowsSnapshot (blocks_of d) k.root.geometry serves.snapshots k.view) disk serves.view;
      settled = serves.settled;
      lasts = serves.lasts;
      left = left;
      entries = serves.entries;
      bridge = elim serves.bridge [
        | inl rests ↦ inl (record { none = rests.none; base = rests.base ∙ (λ i. record { disk = seen i; root = k.root; volume = serves.first }); all = rests.all })
        | inr coming ↦ inr (record {
          point = coming.point;
          is = coming.is;
          way = way_at now now_log epoch there coming.way;
          sound = coming.sound;
          place = coming.place;
          to_come = subst (λ (d : ℕ → Sector). HasEntriesToCome (whole (blocks_of (disk_after coming.point.plan d)) k.root).active k.map) seen coming.to_come;
        })
      ];
      goes = goes;
      stored = serves.stored;
      opened = serves.opened;
      fits = serves.fits;
      state = serves.state;
    }

-- a state is shown over this base, by records with these bodies that lead to this volume, where so much is pledged
abbrev Shown : Meaning → Parts → (ℕ → Option Description) → State → Base → Bodies → Volume → ℕ → ℕ → Type 0
Shown m k table s base bodies running pledged pledged_then =
    (shown : IsServing (uncut m) (record k { pledged = pledged; pledged_then = pledged_then }) table s) × (shown.settled ≡ base) × (shown.lasts.bodies ≡ bodies) × (shown.running ≡ running)

pledging : (m : Meaning) (k : Parts) (table : ℕ → Option Description) (s : State) (base : Base) (bodies : Bodies) (running : Volume) (a b c d : ℕ) → a ≡ b → c ≡ d
    → Shown m k table s base bodies running a c → Shown m k table s base bodies running b d
pledging m k table s base bodies running a b c d ab cd shown = subst (λ (n : ℕ). Shown m k table s base bodies running n d) ab (subst (λ (n : ℕ). Shown m k table s base bodies running a n) cd shown)

-- ---- none waits

-- a system that serves a state is ahead of it by nothing
pub begins : {m : Meaning} {k : Parts} {table : ℕ → Option Description} {s : State} → IsServing m k table s → IsAhead m k none_waits table s s
begins {m} {k} {table} {s} serves =
    let behind : serves.lasts.bodies ≡ with_bodies serves.lasts.bodies [] = λ i. record serves.lasts.bodies { newest = sym (append-nil serves.lasts.bodies.newest) i } in
    let shown = pledging m k table s serves.settled (with_bodies serves.lasts.bodies []) serves.running k.pledged (k.pledged + 0) k.pledged_then (k.pledged_then + 0) (omega arith) (omega arith)
    (served_at serves (uncut m) k.log refl serves.honest refl refl (λ honest c left. absurd left) serves.goes, refl, behind, refl) in
    record {
      waiting = [];
      batch = refl;
      then_inodes = k.inodes;
      then_files = k.files;
      then_session = k.session;
      then_table = table;
      served = serves;
      shown = shown.0;
      base = shown.1;
      behind = shown.2;
    }

-- where no bytes wait, no record does
none_in : (waiting : List Change) (bytes : List ℕ) → IsBatchOf (map change_bytes waiting) bytes → bytes ≡ [] → waiting ≡ []
none_in [] bytes batch none = refl
none_in (change ∷ waiting) bytes batch none = absurd (omega (
  arith,
  length-behind (map change_bytes (change ∷ waiting)) bytes batch,
  ap length none,
  length-append (record_of (change_bytes change)) (records_of (map change_bytes waiting)),
  length-record_of (change_bytes change),
))

-- one more body behind others
one_more : (bodies : Bodies) (waiting : List Change) (change : Change) → with_body (with_bodies bodies (map change_bytes waiting)) (change_bytes change) ≡ with_bodies bodies (map change_bytes (waiting ++ change ∷ []))
one_more bodies waiting change =
    let newest : (bodies.newest ++ map change_bytes waiting) ++ change_bytes change ∷ [] ≡ bodies.newest ++ map change_bytes (waiting ++ change ∷ []) =
    append_assoc bodies.newest (map change_bytes waiting) (change_bytes change ∷ []) ∙ ap (λ (l : List (List ℕ)). bodies.newest ++ l) (sym (map-append change_bytes waiting (change ∷ []))) in
    λ i. record bodies { newest = newest i }

-- ---- reading, but for cuts

pub uncut_reads : {m new : Meaning} {before after : Option PendingPoint} → ReadsOver m new before after → ReadsOver (uncut m) (uncut new) before after
uncut_reads reads = record {
  below = record {
    same = record { sectors = reads.below.same.sectors; nvram_bytes = reads.below.same.nvram_bytes; honest = reads.below.same.honest };
    writes = reads.below.writes;
    reads = reads.below.reads;
    goes = λ honest.
        let went = reads.below.goes honest in
        record { honest = went.honest; later = went.later; kept = λ t c within. (λ left. left, λ left. left); added = λ t c late soon left. absurd left; now = λ c left. absurd left; seen = went.seen };
  };
  pending = reads.pending;
}

pub shows_uncut : {m : Meaning} {kept : BlockCache} {pending : Option PendingPoint} {disk : ℕ → List ℕ} → ShowsOver m kept pending disk → ShowsOver (uncut m) kept pending disk
shows_uncut {m} {kept} {pending} {disk} shows = over_still m (uncut m) kept kept pending disk refl (λ d. still_shows m (uncut m) kept d shows.below.honest refl refl) shows

pub uncut_shows : {m : Meaning} {kept : BlockCache} {pending : Option PendingPoint} {disk : ℕ → List ℕ} → ShowsOver (uncut m) kept pending disk → ShowsOver m kept pending disk
uncut_shows {m} {kept} {pending} {disk} shows = over_still (uncut m) m kept kept pending disk refl (λ d. still_shows (uncut m) m kept d shows.below.honest refl refl) shows

module _ {m : Meaning} {k : Parts} {waits : Waits} {table : ℕ → Option Description} {s kept : State} (ahead : IsAhead m k waits table s kept) where
  -- where nothing is done but reading, and objects come into memory, it is as far ahead
  abbrev pub read_ahead : (new : Meaning) (now_kept : BlockCache) (now_pending : Option PendingPoint) (now_inodes : InodeFile) → ReadsOver m new k.pending now_pending
      → ((disk : ℕ → List ℕ) → ShowsOver m k.kept k.pending disk → ShowsOver new now_kept now_pending disk)
      → ((v : Volume) → OverRoot (blocks_of (disk_over k m.seen.disk)) k.root k.inodes v → OverRoot (blocks_of (disk_over k m.seen.disk)) k.root now_inodes v)
      → now_inodes.geometry ≡ k.inodes.geometry → NeedsNoMore k.inodes now_inodes → IsAhead new (record k { kept = now_kept; pending = now_pending; inodes = now_inodes }) waits table s kept
  read_ahead new now_kept now_pending now_inodes reads shows stays sizes needs = record {
    waiting = ahead.waiting;
    batch = ahead.batch;
    then_inodes = ahead.then_inodes;
    then_files = ahead.then_files;
    then_session = ahead.then_session;
    then_table = ahead.then_table;
    served = read_into ahead.served new now_kept now_pending ahead.then_inodes k.map reads shows (λ v over. over) refl (λ n k least. least) (λ b. refl) (λ coming b. refl);
    shown = read_into ahead.shown (uncut new) now_kept now_pending now_inodes k.map (uncut_reads reads) (λ disk before. shows_uncut (shows disk (uncut_shows before))) stays sizes needs (λ b. refl) (λ coming b. refl);
    base = ahead.base;
    behind = ahead.behind;
  }

  -- ---- one more waits

  module _ (laws : CutLaws) (records : RecordLaws) (change : Change) (advances : Advances (limits_of k.root.geometry) ahead.shown.running table change) where
    -- the volume, and the state, that its record leads to
    abbrev volume : Volume
    volume = swept table (applied change ahead.shown.running)

    abbrev state : State
    state = state_with (limits_of k.root.geometry) k.session volume table ahead.shown.snapshots

    -- memory goes on, and what a cut leaves stays
    pub one_waits : (n : ℕ) → n ≡ cost (limits_of k.root.geometry).costs (work_of ahead.shown.running change) → Reserved laws records ahead.shown change advances
        → (more : Waits) → IsBatchOf (map change_bytes ahead.waiting ++ change_bytes change ∷ []) more.batch → more.pledged ≡ waits.pledged + n
        → (now_inodes : InodeFile) (now_files : Descriptors)
        → IsVolumeOf k.root.geometry.blocks (blocks_of (disk_over k m.seen.disk)) (inodes_of (whole (blocks_of (disk_over k m.seen.disk)) k.root).active) now_inodes volume
        → memory_room ahead.shown.first now_inodes volume ≤ k.pledged_then + more.pledged → table ≡ table_of now_files → FitsVolume now_files volume
        → (more_ahead : IsAhead m (record k { inodes = now_inodes; files = now_files }) more table state kept) × (more_ahead.shown.running ≡ volume)
    one_waits n costs_it reserved more batch pledges now_inodes now_files stands stored opened fits =
        let before = k.pledged + waits.pledged in
        let before_then = k.pledged_then + waits.pledged in
        let now = record k { inodes = now_inodes; files = now_files } in
        let bodies = with_bodies ahead.served.lasts.bodies (map change_bytes (ahead.waiting ++ change ∷ [])) in
        let behind = ap (λ (b : Bodies). with_body b (change_bytes change)) ahead.behind ∙ one_more ahead.served.lasts.bodies ahead.waiting change in
        let serves = logged laws records ahead.shown change advances n costs_it reserved (uncut m) k.log refl (λ disk reads. reads) (same_none (uncut m)) (λ honest c left. absurd left) ahead.shown.goes
        now_inodes now_files stands (omega (arith, stored, pledges)) opened fits in
        let shown = pledging m now table state ahead.served.settled bodies volume (before + n) (k.pledged + more.pledged) (before_then + n) (k.pledged_then + more.pledged) (omega (arith, pledges)) (omega (arith, pledges))
        (serves.serves, ahead.base, behind, serves.volume) in (
          record {
            waiting = ahead.waiting ++ change ∷ [];
            batch = subst (λ (bodies : List (List ℕ)). IsBatchOf bodies more.batch) (sym (map-append change_bytes ahead.waiting (change ∷ []))) batch;
            then_inodes = ahead.then_inodes;
            then_files = ahead.then_files;
            then_session = ahead.then_session;
            then_table = ahead.then_table;
            served = ahead.served;
            shown = shown.0;
            base = shown.1;
            behind = shown.2;
          },
          shown.3,
        )

  -- ---- they are put into the log

  same_disk : (c : Images) → (d : Images) → MayLeave m d → c.disk ≡ d.disk → SameButFree ahead.served.settled.root ahead.served.settled.disk c.disk
  same_disk c d left is n some = ap (λ (e : ℕ → Sector). e n) is ∙ (ahead.served.left ahead.served.honest d left).same n some

  -- the bodies of those that wait
  abbrev pub bodies_waiting : List (List ℕ)
  bodies_waiting = map change_bytes ahead.waiting

  -- the log before them
  pub log_stands : LogStands m k.log ahead.served.settled.root.generation ahead.served.lasts.bodies
  log_stands honest c left = (ahead.served.left honest c left).log_stands

  -- what is pledged is free
  pub within : (free : ℕ) → free ≡ free_of ahead.shown.settled → k.pledged + waits.pledged ≤ free
  within free is = omega (arith, ahead.shown.lasts.reserved, ahead.shown.lasts.pledges, is)

  module _ (laws : CutLaws) (size : m.sectors ≡ 8 * k.root.geometry.blocks) (half : k.log.half ≡ k.root.geometry.half) where
    -- where nothing is done a cut leaves the state that was kept
    pub still_left : LeavesEither m m kept s
    still_left = weaker m m (OpensTo m kept) (λ c. OpensTo m kept c ⊎ OpensTo m s c) (started m (OpensTo m kept) (all_open ahead.served size half laws)) (λ c here. inl here)

    -- what has all of them opens to the state that is shown
    all_there : (c : Images) → SameButFree ahead.served.settled.root ahead.served.settled.disk c.disk
        → LogHolds k.log.half ahead.served.settled.root.generation c.nvram (all_bodies (with_bodies ahead.served.lasts.bodies bodies_waiting)) → OpensTo m s c
    all_there c same all =
        let Has = λ (b : Base). SameButFree b.root b.disk c.disk × LogHolds k.log.half b.root.generation c.nvram (all_bodies ahead.shown.lasts.bodies) in
        let has = subst Has (sym ahead.base) (same, subst (λ (b : Bodies). LogHolds k.log.half ahead.served.settled.root.generation c.nvram (all_bodies b)) (sym ahead.behind) all) in
        opens_same m (uncut m) s c refl (same_open laws ahead.shown.lasts (its_sizes ahead.shown size half) c has.0 has.1)

    -- a cut at any moment of that leaves the one or the other
    pub while_committing : (now : Meaning) → LeavesOnly m now (KeepsDisk m (AllOrNone k.log.half ahead.served.settled.root.generation ahead.served.lasts.bodies bodies_waiting)) → LeavesEither m now kept s
    while_committing now leaves =
        weaker m now (KeepsDisk m (AllOrNone k.log.half ahead.served.settled.root.generation ahead.served.lasts.bodies bodies_waiting)) (λ c. OpensTo m kept c ⊎ OpensTo m s c) leaves (λ c keeps. elim keeps.3 [
          | inl none ↦ inl (same_open laws ahead.served.lasts (its_sizes ahead.served size half) c (same_disk c keeps.0 keeps.1 keeps.2) none)
          | inr all ↦ inr (all_there c (same_disk c keeps.0 keeps.1 keeps.2) all)
        ])

  -- and once they are there, with what was pledged for them, the state that is shown is served
  pub committed : (now : Meaning) (now_log : LogEnd) → now_log.epoch ≡ k.log.epoch → ((disk : ℕ → Sector) → ReadsDisk m disk → ReadsDisk now disk) → IsSameStation m now
      → EachCut now (KeepsDisk m (StandsAt now_log ahead.served.settled.root.generation (with_bodies ahead.served.lasts.bodies bodies_waiting))) → IsFalse now_log.is_stopped
      → IsServing now (record k { log = now_log; pledged = k.pledged + waits.pledged; pledged_then = k.pledged_then + waits.pledged }) table s
  committed now now_log epoch disks same appended goes =
      let there = disks m.seen.disk (ahead.served.honest, refl) in
      let left : EachCut now (IsLeft ahead.shown.settled.root now_log ahead.shown.lasts.bodies ahead.shown.settled.disk) = λ honest c left.
      let keeps = appended honest c left in
      let over : IsLeft ahead.served.settled.root now_log (with_bodies ahead.served.lasts.bodies bodies_waiting) ahead.served.settled.disk c = record { same = same_disk c keeps.0 keeps.1 keeps.2; log_stands = keeps.3 } in
      subst (λ (b : Base). IsLeft b.root now_log ahead.shown.lasts.bodies b.disk c) (sym ahead.base)
      (subst (λ (bodies : Bodies). IsLeft ahead.served.settled.root now_log bodies ahead.served.settled.disk c) (sym ahead.behind) over) in
      served_at ahead.shown now now_log epoch there.0 there.1 same.sectors left goes

  -- where none waits, it is served already
  pub idle : waits.batch ≡ [] → waits.pledged ≡ 0 → IsServing m k table s
  idle none unpledged =
      let no_body : with_bodies ahead.served.lasts.bodies bodies_waiting ≡ ahead.served.lasts.bodies =
      λ i. record ahead.served.lasts.bodies { newest = (ap (λ (l : List Change). ahead.served.lasts.bodies.newest ++ map change_bytes l) (none_in ahead.waiting waits.batch ahead.batch none) ∙ append-nil ahead.served.lasts.bodies.newest) i } in
      let serves = committed m k.log refl (λ d reads. reads) (same_none m)
      (λ honest c left. (c, left, refl, subst (λ (b : Bodies). StandsAt k.log ahead.served.settled.root.generation b c.nvram) (sym no_body) (log_stands honest c left)))
      ahead.served.goes in
      let pledged : k.pledged + waits.pledged ≡ k.pledged = omega (arith, unpledged) in
      let pledged_then : k.pledged_then + waits.pledged ≡ k.pledged_then = omega (arith, unpledged) in
      subst (λ (p : ℕ). IsServing m (record k { pledged = p }) table s) pledged
      (subst (λ (p : ℕ). IsServing m (record k { pledged = k.pledged + waits.pledged; pledged_then = p }) table s) pledged_then serves)
