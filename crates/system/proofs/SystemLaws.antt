-- The images of a system that serves a state open to it.
use Rattle.std.specs.Prelude.{IsTrue}
use Rattle.std.proofs.Common.{◌≡◌, inl, inr, ℕ, ◌*◌, List, Option, Some, None, refl, ap, sym, subst, ◌∙◌, arith}
use Rattle.layout.specs.StateLimits.{limits_of}
use Rattle.station.specs.Images.{Images, Sector}
use Rattle.station.specs.Moments.{Meaning, EachCut}
use Rattle.station.specs.declared.station.Station.{Ghosts}
use Rattle.station.proofs.Moments.{each_unchanged}
use Rattle.layout.specs.Log.{LogHolds}
use Rattle.layout.specs.Limits.{Sizes}
use Rattle.layout.specs.Places.{Blocks, blocks_of}
use Rattle.layout.specs.declared.root.Root.{Root}
use Rattle.model.specs.declared.session.Session.{Session}
use Rattle.model.specs.Paths.{Name}
use Rattle.model.specs.Records.{Extends, is_vacant}
use Rattle.model.specs.States.{State, Forgets}
use Rattle.model.specs.Trees.{Description, Tree}
use Rattle.model.specs.Volumes.{Node, Volume, IsVolume}
use Rattle.buffers.specs.declared.block_cache.BlockCache.{BlockCache}
use Rattle.blockmap.specs.Maps.{entry_at, settled_at}
use Rattle.blockmap.specs.declared.map.BlockMap.{BlockMap}
use Rattle.inofile.specs.Volumes.{IsVolumeOf}
use Rattle.inofile.specs.declared.inode_file.InodeFile.{InodeFile}
use Rattle.images.specs.Roots.{whole}
use Rattle.images.specs.States.{Opens, SameButFree, state_of}
use Rattle.inofile.specs.Room.{NeedsNoMore}
use Rattle.inofile.proofs.RoomLaws.{needs_room}
use Rattle.loading.specs.Images.{inodes_of}
use Rattle.oplog.specs.LogEnd.{LogEnd, all_bodies}
use Rattle.conspoint.specs.Finished.{disk_after}
use Rattle.overlay.specs.Overlays.{ReadsOver, ShowsOver, planned_disk}
use Rattle.overlay.specs.declared.pending.PendingPoint.{PendingPoint}
use Rattle.system.specs.Images.{Base, IsLeft, IsUnder, Lasts, OpensTo}
use Rattle.system.specs.Laws.{CutLaws}
use Rattle.system.specs.Memory.{HasEntries, HasEntriesToCome, IsInMemory}
use Rattle.system.specs.Serving.{ServesState}
use Rattle.system.specs.Systems.{Parts, IsComing, IsServing, disk_over, meaning_of, state_with}
use Rattle.system.specs.declared.system.System.{System}
use Rattle.system.specs.Views.{ShowsSnapshot}
use Rattle.system.specs.UnderWay.{IsUnderWay, Way}

-- a volume and itself
pub extends_itself : (v : Volume) → Extends v v
extends_itself v = record { kept = λ n some. refl; rest = λ n none. subst (λ (o : Option Node). IsTrue (is_vacant o)) (sym none) refl }

-- memory over the tree of a root
abbrev pub OverRoot : Blocks → Root → InodeFile → Volume → Type 0
OverRoot disk root inodes v = IsVolumeOf root.geometry.blocks disk (inodes_of (whole disk root).active) inodes v

-- Where no consistency point is under way all stands on the root of a system and on the disk that its station reads.
pub record AtRest {m : Meaning} {k : Parts} {table : ℕ → Option Description} {s : State} (serves : IsServing m k table s) : Type 0 where
  pub base : serves.settled ≡ record { disk = m.seen.disk; root = k.root; volume = serves.first }
  pub shows : ShowsOver m k.kept k.pending (blocks_of m.seen.disk)
  pub under : IsUnder k.slot k.root serves.first serves.snapshots m.seen.disk
  pub memory : IsInMemory (blocks_of m.seen.disk) k.root k.inodes serves.running
  pub entries : HasEntries (whole (blocks_of m.seen.disk) k.root).active k.map
  pub lasts : Lasts (record { disk = m.seen.disk; root = k.root; volume = serves.first }) serves.snapshots k.pledged serves.running
  pub left : EachCut m (IsLeft k.root k.log lasts.bodies m.seen.disk)
  pub all : k.pledged_then ≡ k.pledged

-- none is under way where one is
pub not_both : (pending : PendingPoint) → Some pending ≡ None → ⊥
not_both pending is = cc

-- a point that is under way is so where another station reads the same disk
pub way_on : {m : Meaning} {log : LogEnd} {settled : Base} {snapshots : List (Name × Tree)} {pledged : ℕ} {running : Volume} {lasts : Lasts settled snapshots pledged running} {w : Way} (new : Meaning)
    → new.seen.disk ≡ m.seen.disk → IsUnderWay m log lasts w → IsUnderWay new log lasts w
way_on new same way = record {
  slot = way.slot;
  planned = way.planned;
  epoch = way.epoch;
  stays = record { nvram = refl; disk = λ n out. ap (λ (d : ℕ → Sector). d n) same ∙ way.stays.disk n out };
  since = way.since;
  pledges = way.pledges;
  saves = way.saves;
}

module _ {m : Meaning} {k : Parts} {table : ℕ → Option Description} {s : State} (serves : IsServing m k table s) where
  pub at_rest : k.pending ≡ None → AtRest serves
  at_rest none = elim serves.bridge [
    | inl rests ↦
        let disk : disk_over k m.seen.disk ≡ m.seen.disk = ap (λ (l : Option PendingPoint). planned_disk l m.seen.disk) none in
        let Lasting = λ (b : Base). (lasts : Lasts b serves.snapshots k.pledged serves.running) × EachCut m (IsLeft b.root k.log lasts.bodies b.disk) in
        let lasting = subst Lasting rests.base (serves.lasts, serves.left) in
        record {
          base = rests.base;
          shows = subst (λ (d : ℕ → Sector). ShowsOver m k.kept k.pending (blocks_of d)) disk serves.shows;
          under = subst (IsUnder k.slot k.root serves.first serves.snapshots) disk serves.under;
          memory = subst (λ (d : ℕ → Sector). IsInMemory (blocks_of d) k.root k.inodes serves.running) disk serves.memory;
          entries = subst (λ (b : Base). HasEntries (whole (blocks_of b.disk) b.root).active k.map) rests.base serves.entries;
          lasts = lasting.0;
          left = lasting.1;
          all = rests.all;
        }
    | inr coming ↦ absurd (not_both coming.point (sym coming.is ∙ none))
  ]

  -- what is settled is of one size with the root
  pub sizes : serves.settled.root.geometry ≡ k.root.geometry
  sizes = elim serves.bridge [
    | inl rests ↦ ap (λ (b : Base). b.root.geometry) rests.base
    | inr coming ↦ sym coming.way.planned.point.geometry
  ]

  -- where nothing was done but reading, and objects came into memory
  abbrev pub read_into : (new : Meaning) (now_kept : BlockCache) (now_pending : Option PendingPoint) (now_inodes : InodeFile) (now_map : BlockMap) → ReadsOver m new k.pending now_pending
      → ((disk : ℕ → List ℕ) → ShowsOver m k.kept k.pending disk → ShowsOver new now_kept now_pending disk)
      → ((v : Volume) → OverRoot (blocks_of (disk_over k m.seen.disk)) k.root k.inodes v → OverRoot (blocks_of (disk_over k m.seen.disk)) k.root now_inodes v)
      → now_inodes.geometry ≡ k.inodes.geometry → NeedsNoMore k.inodes now_inodes
      → ((b : ℕ) → settled_at now_map.parts.items b ≡ settled_at k.map.parts.items b)
      → (IsComing m k.log k.pending k.root k.slot serves.first k.map serves.lasts k.pledged_then → (b : ℕ) → entry_at now_map.parts.items b ≡ entry_at k.map.parts.items b)
      → IsServing new (record k { kept = now_kept; pending = now_pending; inodes = now_inodes; map = now_map }) table s
  read_into new now_kept now_pending now_inodes now_map reads shows stays sizes needs entries to_come =
      let went = reads.below.goes serves.honest in
      let seen : m.seen.disk ≡ new.seen.disk = sym (ap (λ (i : Images). i.disk) went.seen) in
      let disk : disk_over k m.seen.disk ≡ planned_disk now_pending new.seen.disk = ap (planned_disk k.pending) seen ∙ ap (λ (l : Option PendingPoint). planned_disk l new.seen.disk) (sym reads.pending) in
      record {
        honest = went.honest;
        shows = subst (λ (d : ℕ → List ℕ). ShowsOver new now_kept now_pending (blocks_of d)) disk (shows (blocks_of (disk_over k m.seen.disk)) serves.shows);
        first = serves.first;
        snapshots = serves.snapshots;
        under = subst (IsUnder k.slot k.root serves.first serves.snapshots) disk serves.under;
        running = serves.running;
        mounted = serves.mounted;
        memory = subst (λ (d : ℕ → List ℕ). IsInMemory (blocks_of d) k.root now_inodes serves.running) disk (record {
          stands = stays serves.running serves.memory.stands;
          volume = serves.memory.volume;
        });
        view = subst (λ (d : ℕ → Sector). ShowsSnapshot (blocks_of d) k.root.geometry serves.snapshots k.view) disk serves.view;
        settled = serves.settled;
        lasts = serves.lasts;
        left = each_unchanged m new (IsLeft serves.settled.root k.log serves.lasts.bodies serves.settled.disk) reads.below.same serves.left reads.below.goes;
        entries = λ b. entries b ∙ serves.entries b;
        bridge = elim serves.bridge [
          | inl rests ↦ inl (record { none = reads.pending ∙ rests.none; base = rests.base ∙ (λ i. record { disk = seen i; root = k.root; volume = serves.first }); all = rests.all })
          | inr coming ↦ inr (record {
            point = coming.point;
            is = reads.pending ∙ coming.is;
            way = way_on new (sym seen) coming.way;
            sound = coming.sound;
            place = coming.place;
            to_come = subst (λ (d : ℕ → List ℕ). HasEntriesToCome (whole (blocks_of (disk_after coming.point.plan d)) k.root).active now_map) seen (λ b. to_come coming b ∙ coming.to_come b);
          })
        ];
        goes = serves.goes;
        stored = omega (arith, serves.stored, needs_room serves.first serves.running k.inodes now_inodes sizes needs);
        opened = serves.opened;
        fits = serves.fits;
        state = serves.state;
      }

  -- where none did, and no point is under way
  abbrev pub read_on : k.pending ≡ None → (new : Meaning) (now_kept : BlockCache) (now_pending : Option PendingPoint) (now_map : BlockMap) → ReadsOver m new k.pending now_pending
      → ((disk : ℕ → List ℕ) → ShowsOver m k.kept k.pending disk → ShowsOver new now_kept now_pending disk)
      → ((b : ℕ) → settled_at now_map.parts.items b ≡ settled_at k.map.parts.items b) → IsServing new (record k { kept = now_kept; pending = now_pending; map = now_map }) table s
  read_on none new now_kept now_pending now_map reads shows entries =
      read_into new now_kept now_pending k.inodes now_map reads shows (λ v over. over) refl (λ n k least. least) entries (λ coming. absurd (not_both coming.point (sym coming.is ∙ none)))

-- ---- what a cut leaves

-- A station and a log are of these sizes, and so are a volume and the state that shows it.
pub record AreOf (sizes : Sizes) (m : Meaning) (log : LogEnd) (running : Volume) (table : ℕ → Option Description) (snapshots : List (Name × Tree)) (s : State) : Type 0 where
  pub sectors : m.sectors ≡ 8 * sizes.blocks
  pub half : log.half ≡ sizes.half
  pub volume : IsVolume (limits_of sizes) running
  pub said : Session
  pub state : s ≡ state_with (limits_of sizes) said running table snapshots

-- what a mount finds of the state is that of a replayed volume
pub found_of : CutLaws → {sizes : Sizes} {m : Meaning} {log : LogEnd} {running : Volume} {table : ℕ → Option Description} {snapshots : List (Name × Tree)} {s : State}
    → AreOf sizes m log running table snapshots s → (last : Volume) → Extends running last → Forgets s (state_of (limits_of sizes) last snapshots)
found_of laws {sizes} {running = running} {table = table} {snapshots = snapshots} are last extends =
    subst (λ (t : State). Forgets t (state_of (limits_of sizes) last snapshots)) (sym are.state) (record {
      tree = laws.forgets (limits_of sizes) running last table are.volume extends;
      rest = refl;
    })

-- What outlasts a cut opens to the state of the running volume.
module _ (laws : CutLaws) {m : Meaning} {base : Base} {snapshots : List (Name × Tree)} {log : LogEnd} {pledged : ℕ} {running : Volume} (lasts : Lasts base snapshots pledged running)
    {table : ℕ → Option Description} {s : State} (are : AreOf base.root.geometry m log running table snapshots s) where
  pub finds : Forgets s (state_of (limits_of base.root.geometry) lasts.replayed.last snapshots)
  finds = found_of laws are lasts.replayed.last lasts.replayed.extends

  -- its disk, with any NVRAM that has its records
  abbrev pub reads_open : (nvram : List ℕ) → LogHolds log.half base.root.generation nvram (all_bodies lasts.bodies) → Opens m.sectors base.disk nvram s
  reads_open nvram holds = record {
    root = base.root;
    newest = lasts.newest;
    size = are.sectors;
    first = base.volume;
    snapshots = snapshots;
    holds = lasts.holds;
    changes = lasts.replayed.changes;
    log = record {
      are = lasts.replayed.are;
      log = subst (LogHolds base.root.geometry.half base.root.generation nvram) lasts.replayed.spelled
          (subst (λ (h : ℕ). LogHolds h base.root.generation nvram (all_bodies lasts.bodies)) are.half holds);
    };
    room = lasts.reserved;
    last = lasts.replayed.last;
    replays = lasts.replayed.replays;
    state = finds;
  }

  -- and so does one that is the same but for free blocks
  pub same_open : (c : Images) → SameButFree base.root base.disk c.disk → LogHolds log.half base.root.generation c.nvram (all_bodies lasts.bodies) → OpensTo m s c
  same_open c same holds = record { opens = (laws.free m.sectors base.disk c.disk c.nvram s (reads_open c.nvram holds) same).opens }

  pub one_opens : (c : Images) → IsLeft base.root log lasts.bodies base.disk c → OpensTo m s c
  one_opens c left = same_open c left.same left.log_stands.holds

-- a system's
module _ {m : Meaning} {k : Parts} {table : ℕ → Option Description} {s : State} (serves : IsServing m k table s) where
  -- what has the sizes of the root has those of what is settled
  pub sized : {log : LogEnd} {running : Volume} {t : State} → AreOf k.root.geometry m log running table serves.snapshots t → AreOf serves.settled.root.geometry m log running table serves.snapshots t
  sized {log} {running} {t} = subst (λ (g : Sizes). AreOf g m log running table serves.snapshots t) (sym (sizes serves))

  module _ (size : m.sectors ≡ 8 * k.root.geometry.blocks) (half : k.log.half ≡ k.root.geometry.half) where
    pub root_sizes : AreOf k.root.geometry m k.log serves.running table serves.snapshots s
    root_sizes = record { sectors = size; half = half; volume = serves.memory.volume; said = k.session; state = serves.state }

    pub its_sizes : AreOf serves.settled.root.geometry m k.log serves.running table serves.snapshots s
    its_sizes = sized root_sizes

    pub all_open : CutLaws → EachCut m (OpensTo m s)
    all_open laws honest c left = one_opens laws serves.lasts its_sizes c (serves.left honest c left)

-- what opens to a state does so for a station of the same size
pub opens_same : (m n : Meaning) (s : State) (c : Images) → n.sectors ≡ m.sectors → OpensTo n s c → OpensTo m s c
opens_same m n s c same opens =
    record { opens = subst (λ (k : ℕ). Opens k c.disk c.nvram s) same opens.opens }

-- whatever a cut leaves of a system opens to the state that it serves
abbrev pub AllOpen : {S : Type 0} {G : Ghosts S} → System S G → Type 0
AllOpen f = (s : State) → ServesState f s → EachCut (meaning_of f) (OpensTo (meaning_of f) s)
