-- What is found on a station and read from it makes a system that serves it.
use Rattle.std.proofs.Common.{◌≡◌, ◌⊎◌, inl, inr, ℕ, zero, suc, ◌≤◌, List, All, Option, Some, None, false, refl, sym, ap, subst, ◌∙◌}
use Rattle.std.specs.Prelude.{Result, Ok, Err, IsErrAnd, IsErrOf, IsSome, IsTrue, IsFalse, MatchResult, IfErr}
use Rattle.std.specs.Option.{option_map}
use Rattle.layout.specs.StateLimits.{limits_of}
use Rattle.station.specs.Images.{Images}
use Rattle.station.specs.Moments.{Meaning, IsSameStation, LeavesJust}
use Rattle.station.specs.declared.station.Station.{Ghosts}
use Rattle.layout.specs.Limits.{Sizes}
use Rattle.layout.specs.Log.{LogHolds}
use Rattle.layout.specs.Places.{Blocks, blocks_of}
use Rattle.layout.specs.Record.{Change, IsChange}
use Rattle.layout.specs.declared.root.Root.{Root}
use Rattle.model.specs.declared.session.Session.{Session}
use Rattle.model.specs.Sessions.{new_session}
use Rattle.model.specs.Paths.{Name}
use Rattle.model.specs.Records.{Extends, Replays, is_vacant, pledged_for, without_orphans}
use Rattle.model.specs.States.{State}
use Rattle.model.specs.Trees.{Tree}
use Rattle.model.specs.Volumes.{Node, directory_node, file_node, link_node, IsMounted, IsVolume, Volume, swept_node}
use Rattle.buffers.specs.Disks.{ReadsOn, ShowsDisk}
use Rattle.buffers.specs.declared.cache.Buffers.{Buffers}
use Rattle.buffers.specs.declared.block_cache.BlockCache.{BlockCache}
use Rattle.oplog.specs.LogEnd.{LogEnd, StandsAt}
use Rattle.overlay.specs.Overlays.{ShowsOver}
use Rattle.overlay.specs.declared.pending.PendingPoint.{PendingPoint}
use Rattle.overlay.specs.declared.overlay.Overlay.{Overlay}
use Rattle.oplog.specs.SavedLog.{Saved, StandsBehind}
use Rattle.blockmap.specs.declared.map.BlockMap.{BlockMap}
use Rattle.descriptors.specs.Files.{description_of}
use Rattle.descriptors.specs.Fits.{FitsVolume}
use Rattle.descriptors.specs.Tables.{open_at}
use Rattle.descriptors.specs.declared.table.Descriptors.{Descriptors}
use Rattle.images.specs.Nodes.{held}
use Rattle.images.specs.Roots.{Whole, whole}
use Rattle.inofile.specs.Room.{memory_room}
use Rattle.inofile.specs.Volumes.{IsVolumeIn, IsVolumeOf}
use Rattle.inofile.specs.declared.inode_file.InodeFile.{InodeFile}
use Rattle.images.specs.Contents.{tree_contents}
use Rattle.images.specs.Faults.{HasLog, IsFaultlessUnder}
use Rattle.images.specs.Replaying.{ReplaysWithin}
use Rattle.images.specs.Sizes.{HoldsVolumeIn}
use Rattle.images.specs.Soundness.{by_sizes}
use Rattle.loading.specs.Images.{IsLoadedIn, IsLoadedUnder, IsReadableIn, inodes_of}
use Rattle.loading.specs.Slots.{IsNewestAt}
use Rattle.records.specs.Preparing.{HasGraph}
use Rattle.replay.specs.Volumes.{HasVolume, HasVolumeIn, SavesRecords, SavesRecordsIn, bodies_of}
use Rattle.oplog.specs.declared.saved.SavedLogError.{SavedLogError}
use Rattle.oplog.specs.declared.saved.SavedLogError.TheVariants as log
use Rattle.buffers.specs.declared.error.BlockError.{BlockError}
use Rattle.buffers.specs.declared.error.BlockError.TheVariants as read
use Rattle.loading.specs.declared.error.RootError.{RootError}
use Rattle.loading.specs.declared.error.RootError.TheVariants as root
use Rattle.system.specs.Opening.{HasImage, HasNewest, HasRead, HasReplayed, HoldsRecords, IsFaultlessTree, IsOf, IsSavedOver}
use Rattle.system.specs.Refusals.{SaysNothing, refusal_of_log, refusal_of_read, refusal_of_root}
use Rattle.system.specs.Systems.{Parts, IsServing, state_with}
use Rattle.system.specs.declared.mount_error.MountError.{MountError}
use Rattle.system.specs.declared.opening.FoundImages.{FoundImages}
use Rattle.system.specs.declared.opening.LoadedImage.{LoadedImage}
use Rattle.system.proofs.LookedLaws.{ReadsBlocksOn, reads_nothing}

-- ---- refusals

pub root_refused : {T : Type 0} (P : T → Type 0) (r : Result T MountError) (e : RootError) → IsErrAnd r (λ x. x ≡ refusal_of_root e) → e ≡ root.Device → MatchResult r P SaysNothing
root_refused P (Ok x) e is device = absurd is
root_refused P (Err x) root.Device is device = inr is
root_refused P (Err x) root.NoRoot is device = cc
root_refused P (Err x) root.Damaged is device = cc

pub log_refused : {T U : Type 0} (P : T → Type 0) (r : Result T MountError) (e : SavedLogError) → IsErrAnd r (λ x. x ≡ refusal_of_log e) → (IsErrOf {T = U} (Err e) log.Damaged → ⊥) → MatchResult r P SaysNothing
log_refused P (Ok x) e is undamaged = absurd is
log_refused P (Err x) log.NoMemory is undamaged = inl is
log_refused P (Err x) log.Device is undamaged = inr is
log_refused P (Err x) log.Damaged is undamaged = absurd (undamaged refl)

pub read_refused : {T : Type 0} (P : T → Type 0) (r : Result T MountError) (e : BlockError) → IsErrAnd r (λ x. x ≡ refusal_of_read e) → (e ≡ read.NoMemory) ⊎ (e ≡ read.Device) → MatchResult r P SaysNothing
read_refused P (Ok x) e is why = absurd is
read_refused P (Err x) read.NoMemory is why = inl is
read_refused P (Err x) read.Device is why = inr is
read_refused P (Err x) read.Damaged is (inl none) = cc
read_refused P (Err x) read.Damaged is (inr device) = cc

pub not_damaged : {T U : Type 0} (P : T → Type 0) (r : Result T MountError) (e : BlockError) → IsErrAnd r (λ x. x ≡ refusal_of_read e) → (IsErrOf {T = U} (Err e) read.Damaged → ⊥) → MatchResult r P SaysNothing
not_damaged P (Ok x) e is undamaged = absurd is
not_damaged P (Err x) read.NoMemory is undamaged = inl is
not_damaged P (Err x) read.Device is undamaged = inr is
not_damaged P (Err x) read.Damaged is undamaged = absurd (undamaged refl)

-- ---- answers

pub match_weaker : {T E : Type 0} (r : Result T E) (P P' : T → Type 0) (Q Q' : E → Type 0) → ((x : T) → P x → P' x) → ((e : E) → Q e → Q' e) → MatchResult r P Q → MatchResult r P' Q'
match_weaker (Ok x) P P' Q Q' f g is = f x is
match_weaker (Err e) P P' Q Q' f g is = g e is

pub if_err_weaker : {T E : Type 0} (r : Result T E) (P Q : E → Type 0) → ((e : E) → P e → Q e) → IfErr r P → IfErr r Q
if_err_weaker (Ok x) P Q f is = tt
if_err_weaker (Err e) P Q f is = f e is

-- ---- the station

-- blocks were read of a station that no block was read of before, and no point is under way
module _ {S : Type 0} {G : Ghosts S} (station : S) (buffers : Buffers S) (blocks : Overlay S G) (is : buffers.station ≡ station) (same : blocks.buffers ≡ buffers) where
  over_station : blocks.buffers.station ≡ station
  over_station = ap (λ (b : Buffers S). b.station) same ∙ is

  pub read_from : (new : Overlay S G) → ((origin : Overlay S G) → ReadsBlocksOn G origin blocks → ReadsBlocksOn G origin new) → ReadsOn (G.meaning station) (G.meaning new.buffers.station)
  read_from new reads = subst (λ (s : S). ReadsOn (G.meaning s) (G.meaning new.buffers.station)) over_station (reads blocks (reads_nothing G blocks)).below

  pub shown_new : ShowsDisk (G.meaning buffers.station) buffers.kept (blocks_of (G.meaning station).seen.disk)
      → (ShowsDisk (G.meaning buffers.station) buffers.kept (blocks_of (G.meaning buffers.station).seen.disk)
      → ShowsOver (G.meaning blocks.buffers.station) blocks.buffers.kept blocks.pending (blocks_of (G.meaning blocks.buffers.station).seen.disk))
      → ShowsOver (G.meaning blocks.buffers.station) blocks.buffers.kept blocks.pending (blocks_of (G.meaning station).seen.disk)
  shown_new below over =
      subst (λ (s : S). ShowsOver (G.meaning blocks.buffers.station) blocks.buffers.kept blocks.pending (blocks_of (G.meaning s).seen.disk)) over_station
      (over (subst (λ (s : S). ShowsDisk (G.meaning buffers.station) buffers.kept (blocks_of (G.meaning s).seen.disk)) (sym is) below))

-- ---- what memory has

-- a log over a root is the one that was saved over it
saved_log : (nvram : List ℕ) (saved : Saved) (r : Root) (changes : List Change) → IsSavedOver r saved → LogHolds r.geometry.half r.generation nvram (bodies_of changes)
    → LogHolds saved.half saved.generation nvram (bodies_of changes)
saved_log nvram saved r changes over log =
    subst (λ (n : ℕ). LogHolds n saved.generation nvram (bodies_of changes)) (sym over.half)
    (subst (λ (n : ℕ). LogHolds r.geometry.half n nvram (bodies_of changes)) (sym over.generation) log)

module _ (disk : Blocks) (r : Root) (nvram : List ℕ) (first last : Volume) (snapshots : List (Name × Tree)) (changes : List Change) (saved : Saved)
    (over : IsSavedOver r saved) (holds : HoldsRecords disk r nvram first last snapshots changes) where
  pub saves : (inodes : InodeFile) → inodes.geometry ≡ r.geometry → SavesRecords (limits_of inodes.geometry) nvram saved changes first last
  saves inodes geometry = record {
    are = subst (λ (s : Sizes). All (IsChange (limits_of s).has_attributes) changes) (sym geometry) holds.log.are;
    held = saved_log nvram saved r changes over holds.log.log;
    replays = subst (λ (s : Sizes). Replays (limits_of s) first changes last) (sym geometry) holds.replays;
  }

  pub has_volume : (inodes : InodeFile) (map : BlockMap) (count : ℕ) → inodes.geometry ≡ r.geometry → count ≡ r.geometry.blocks → IsLoadedUnder disk r map inodes
      → HasVolume count disk (inodes_of (whole disk r).active) inodes first
  has_volume inodes map count geometry is loaded = record {
    memory = subst (λ (n : ℕ). IsVolumeOf n disk (inodes_of (whole disk r).active) inodes first) (sym is) (loaded.inodes.volume first holds.holds.holds);
    volume = subst (λ (s : Sizes). IsVolume (limits_of s) first) (sym geometry) holds.holds.volume;
  }

  pub has_image : (old : InodeFile) (p : LoadedImage) (count : ℕ) → p.inodes.geometry ≡ r.geometry → count ≡ r.geometry.blocks → IsLoadedUnder disk r p.map old
      → StandsBehind p.log saved.generation nvram (bodies_of changes) → HasVolume count disk (inodes_of (whole disk r).active) p.inodes (without_orphans last)
      → p.pledged ≡ pledged_for (limits_of old.geometry) first changes → memory_room first p.inodes (without_orphans last) ≤ p.pledged → old.geometry ≡ r.geometry → HasImage disk r nvram first last changes p
  has_image old p count geometry is loaded stands has pledges stored sizes = record {
    log = subst (λ (n : ℕ). StandsBehind p.log n nvram (bodies_of changes)) over.generation stands;
    memory = record {
      stands = subst (λ (n : ℕ). IsVolumeOf n disk (inodes_of (whole disk r).active) p.inodes (without_orphans last)) is has.memory;
      volume = subst (λ (s : Sizes). IsVolume (limits_of s) (without_orphans last)) geometry has.volume;
    };
    entries = loaded.map.settled;
    pledges = pledges ∙ ap (λ (s : Sizes). pledged_for (limits_of s) first changes) sizes;
    stored = stored;
  }

-- ---- the same where no fault stands in a root's tree

module _ (disk : Blocks) (r : Root) (nvram : List ℕ) (saved : Saved) (over : IsSavedOver r saved) where
  -- it can be read
  pub tree_read : IsFaultlessTree r (whole disk r) → IsReadableIn by_sizes disk r
  tree_read tree = record { sound = (tree.active.grammar, tree.active.numbers); within = tree.within; root = tree.active.grammar.root }

  -- what is loaded stands for the volume that the tree holds
  pub stands_by_sizes : (inodes : InodeFile) (map : BlockMap) (count : ℕ) → inodes.geometry ≡ r.geometry → count ≡ r.geometry.blocks → IsLoadedIn by_sizes disk r map inodes
      → (first : Volume) → HoldsVolumeIn by_sizes r.geometry.inodes (tree_contents (whole disk r).active) first → HasGraph r.geometry.inodes first
      → HasVolumeIn by_sizes count disk (inodes_of (whole disk r).active) inodes first
  stands_by_sizes inodes map count geometry is loaded first holds graph = record {
    memory = subst (λ (n : ℕ). IsVolumeIn by_sizes n disk (inodes_of (whole disk r).active) inodes first) (sym is) (loaded.inodes.volume first holds);
    volume = subst (λ (s : Sizes). HasGraph s.inodes first) (sym geometry) graph;
  }

  -- the records of its log are those that were saved
  pub saves_within : (inodes : InodeFile) → inodes.geometry ≡ r.geometry → (changes : List Change) (log : HasLog r (whole disk r) nvram changes)
      → SavesRecordsIn by_sizes (limits_of inodes.geometry) nvram saved changes log.first log.last
  saves_within inodes geometry changes log = record {
    are = subst (λ (s : Sizes). All (IsChange (limits_of s).has_attributes) changes) (sym geometry) log.log.are;
    held = saved_log nvram saved r changes over log.log.log;
    replays = subst (λ (s : Sizes). ReplaysWithin (limits_of s) log.first changes log.last) (sym geometry) log.replays;
  }

  -- and those that were saved and replayed are the records of its log
  pub all_replayed : (inodes after : InodeFile) (count : ℕ) (log : LogEnd) → inodes.geometry ≡ r.geometry → count ≡ r.geometry.blocks
      → (changes : List Change) (first last : Volume) → HoldsVolumeIn by_sizes r.geometry.inodes (tree_contents (whole disk r).active) first
      → SavesRecordsIn by_sizes (limits_of inodes.geometry) nvram saved changes first last → StandsBehind log saved.generation nvram (bodies_of changes)
      → HasVolumeIn by_sizes count disk (inodes_of (whole disk r).active) after (without_orphans last) → HasReplayed disk nvram r log after
  all_replayed inodes after count log geometry is changes first last holds saves stands has = record {
    changes = changes;
    records = record {
      first = first;
      last = last;
      holds = holds;
      log = record {
        are = subst (λ (s : Sizes). All (IsChange (limits_of s).has_attributes) changes) geometry saves.are;
        log = subst (λ (n : ℕ). LogHolds n r.generation nvram (bodies_of changes)) over.half (subst (λ (n : ℕ). LogHolds saved.half n nvram (bodies_of changes)) over.generation saves.held);
      };
      replays = subst (λ (s : Sizes). ReplaysWithin (limits_of s) first changes last) geometry saves.replays;
    };
    ends = subst (λ (n : ℕ). StandsBehind log n nvram (bodies_of changes)) over.generation stands;
    memory = subst (λ (n : ℕ). IsVolumeIn by_sizes n disk (inodes_of (whole disk r).active) after (without_orphans last)) is has.memory;
  }

-- such a tree is that of images without a fault
pub faultless_tree : (r : Root) (w : Whole) (nvram : List ℕ) (changes : List Change) → IsFaultlessUnder r w nvram changes → IsFaultlessTree r w
faultless_tree r w nvram changes under = record { active = under.active; within = under.within; readable = under.readable }

-- what was found behind calls that change nothing was there before
pub found_before : (old new : Meaning) (k : Parts) → IsSameStation old new → new.seen ≡ old.seen → HasNewest new k → HasNewest old k
found_before old new k same seen found = record {
  newest = subst (λ (i : Images). IsNewestAt k.slot k.root i.disk) seen found.newest;
  fits = record { sectors = sym same.sectors ∙ found.fits.sectors; nvram = sym same.nvram_bytes ∙ found.fits.nvram };
  read = subst (λ (i : Images). HasRead (blocks_of i.disk) i.nvram k.root k.log k.inodes) seen found.read;
}

-- ---- orphans

kept_nodes : (o : Option Node) → IsSome (swept_node false o) → o ≡ swept_node false o
kept_nodes None some = refl
kept_nodes (Some (directory_node attributes names)) some = refl
kept_nodes (Some (link_node attributes text)) some = refl
kept_nodes (Some (file_node attributes zero bytes)) some = cc
kept_nodes (Some (file_node attributes (suc links) bytes)) some = refl

vacant_nodes : (o : Option Node) → swept_node false o ≡ None → IsTrue (is_vacant o)
vacant_nodes None none = refl
vacant_nodes (Some (directory_node attributes names)) none = cc
vacant_nodes (Some (link_node attributes text)) none = cc
vacant_nodes (Some (file_node attributes zero bytes)) none = refl
vacant_nodes (Some (file_node attributes (suc links) bytes)) none = cc

-- a volume has what it has without them
extends : (v : Volume) → Extends (without_orphans v) v
extends v = record { kept = λ n some. kept_nodes (v n) some; rest = λ n none. vacant_nodes (v n) none }

-- ---- the system

module _ (m : Meaning) (kept : BlockCache) (found : FoundImages) (p : LoadedImage) (first last : Volume) (snapshots : List (Name × Tree)) (changes : List Change)
    (files : Descriptors) (none : (d : ℕ) → open_at files d ≡ None) (fits : (v : Volume) → FitsVolume files v) (said : Session) (said_nothing : said ≡ new_session) where
  -- memory over what was found, where reads give these images
  pub record IsOver (i : Images) : Type 0 where
    pub just : LeavesJust m i
    pub shows : ShowsOver m kept None (blocks_of i.disk)
    pub of : IsOf i found
    pub holds : HoldsRecords (blocks_of i.disk) found.newest.root i.nvram first last snapshots changes
    pub has : HasImage (blocks_of i.disk) found.newest.root i.nvram first last changes p

  abbrev parts : Option PendingPoint → Parts
  parts pending = record {
    kept = kept;
    pending = pending;
    root = found.newest.root;
    slot = found.newest.slot;
    inodes = p.inodes;
    view = None;
    map = p.map;
    log = p.log;
    pledged = p.pledged;
    pledged_then = p.pledged;
    files = files;
    session = said;
  }

  abbrev shown : State
  shown = state_with (limits_of found.newest.root.geometry) new_session (without_orphans last) (λ d. None) snapshots

  serving : IsMounted (without_orphans last) (λ d. None) → IsFalse p.log.is_stopped → IsOver m.seen → IsServing m (parts None) (λ d. None) shown
  serving mounted runs over = record {
    honest = over.shows.below.honest;
    shows = over.shows;
    first = first;
    snapshots = snapshots;
    under = record { newest = over.of.newest; holds = over.holds.holds };
    running = without_orphans last;
    mounted = mounted;
    memory = over.has.memory;
    view = tt;
    settled = record { disk = m.seen.disk; root = found.newest.root; volume = first };
    lasts = record {
      newest = over.of.newest.newest;
      holds = over.holds.holds;
      bodies = over.has.log.bodies;
      replayed = record {
        changes = changes;
        are = over.holds.log.are;
        spelled = over.has.log.all;
        last = last;
        replays = over.holds.replays;
        extends = extends last;
      };
      pledges = over.has.pledges;
      reserved = over.holds.room;
    };
    left = λ honest c left.
        let is = over.just honest c left in
        record {
          same = λ n some. ap (λ (i : Images). i.disk n) is;
          log_stands = subst (λ (i : Images). StandsAt p.log found.newest.root.generation over.has.log.bodies i.nvram) (sym is) over.has.log.stands;
        };
    entries = over.has.entries;
    bridge = inl (record { none = refl; base = refl; all = refl });
    goes = runs;
    stored = over.has.stored;
    opened = λ i d. option_map description_of (sym (none d) i);
    fits = fits (without_orphans last);
    state = ap (λ (x : Session). state_with (limits_of found.newest.root.geometry) x (without_orphans last) (λ d. None) snapshots) (sym said_nothing);
  }

  pub serves : (pending : Option PendingPoint) → pending ≡ None → (i : Images) → m.seen ≡ i → IsMounted (without_orphans last) (λ d. None) → IsFalse p.log.is_stopped → IsOver i
      → IsServing m (parts pending) (λ d. None) shown
  serves pending rests i is mounted runs over =
      subst (λ (l : Option PendingPoint). IsServing m (parts l) (λ d. None) shown) (sym rests) (serving mounted runs (subst IsOver (sym is) over))
