-- What a mounted system stands for.
use Rattle.std.specs.Prelude.{ℕ, ◌≡◌, ◌⊎◌, ◌≤◌, ◌++◌, List, Option, Some, None, IsFalse}
use Rattle.model.specs.declared.session.Session.{Session}
use Rattle.model.specs.declared.limits.Limits.{Limits}
use Rattle.layout.specs.StateLimits.{limits_of}
use Rattle.station.specs.Moments.{EachCut, Meaning}
use Rattle.station.specs.declared.station.Station.{Ghosts}
use Rattle.layout.specs.Places.{blocks_of}
use Rattle.layout.specs.declared.root.Root.{Root}
use Rattle.model.specs.Paths.{Name}
use Rattle.model.specs.Records.{Change}
use Rattle.model.specs.States.{State, going}
use Rattle.model.specs.Trees.{Tree, Description}
use Rattle.model.specs.Volumes.{Volume, IsMounted, tree_of}
use Rattle.buffers.specs.Disks.{numbered_blocks}
use Rattle.buffers.specs.declared.blocks.Blocks as blocks
use Rattle.buffers.specs.declared.block_cache.BlockCache.{BlockCache}
use Rattle.blockmap.specs.declared.map.BlockMap.{BlockMap}
use Rattle.inofile.specs.Room.{memory_room}
use Rattle.inofile.specs.declared.inode_file.InodeFile.{InodeFile}
use Rattle.descriptors.specs.Fits.{FitsVolume}
use Rattle.descriptors.specs.Tables.{table_of}
use Rattle.descriptors.specs.declared.table.Descriptors.{Descriptors}
use Rattle.oplog.specs.LogEnd.{LogEnd, all_bodies, no_bodies}
use Rattle.images.specs.Roots.{whole}
use Rattle.conspoint.specs.Finished.{disk_after}
use Rattle.conspoint.specs.Plans.{IsPlanned}
use Rattle.overlay.specs.Overlays.{IsHere, ReadsOver, ShowsOver, planned_disk}
use Rattle.overlay.specs.declared.overlay.Overlay.{Overlay}
use Rattle.overlay.specs.declared.pending.PendingPoint.{PendingPoint}
use Rattle.system.specs.Images.{Base, IsLeft, IsUnder, Lasts}
use Rattle.system.specs.Memory.{HasEntries, HasEntriesToCome, IsInMemory}
use Rattle.system.specs.UnderWay.{IsUnderWay}
use Rattle.system.specs.Views.{ShowsSnapshot}
use Rattle.system.specs.declared.snapshot_view.View.{View}
use Rattle.system.specs.declared.system.System.{System}

-- the meaning of a system's station
abbrev pub meaning_of : {S : Type 0} {G : Ghosts S} → System S G → Meaning
meaning_of {S} {G} f = G.meaning f.blocks.buffers.station

-- the state that a system with this running volume shows, with these limits, snapshots and open
-- files
abbrev pub state_with : Limits → Session → Volume → (ℕ → Option Description) → List (Name × Tree) → State
state_with limits said running table snapshots =
    record { limits = limits; tree = tree_of running table; snapshots = snapshots; mark = going; session = said }

-- the blocks of a station, as the layers below have them
abbrev pub blocks_with : {S : Type 0} (G : Ghosts S) → blocks.Ghosts (Overlay S G)
blocks_with G = record {
  Shows = λ b disk. ShowsOver (G.meaning b.buffers.station) b.buffers.kept b.pending disk;
  ReadsOn = λ a b. ReadsOver (G.meaning a.buffers.station) (G.meaning b.buffers.station) a.pending b.pending;
  IsResident = λ b place. IsHere b.buffers.kept b.pending place;
  failed = λ b. (G.meaning b.buffers.station).failed_reads;
  count = λ b. numbered_blocks (G.meaning b.buffers.station).sectors;
}

-- What a system has beside its station: blocks that it keeps clean in memory, the consistency point
-- that is under way, the root that memory stands on with the slot of that, objects and the block
-- map in memory, the view of a snapshot, the log's end, what is pledged and what of it stays so
-- behind the point, the open files, and what the session says.
pub record Parts : Type 0 where
  pub kept : BlockCache
  pub pending : Option PendingPoint
  pub root : Root
  pub slot : ℕ
  pub inodes : InodeFile
  pub view : Option View
  pub map : BlockMap
  pub log : LogEnd
  pub pledged : ℕ
  pub pledged_then : ℕ
  pub files : Descriptors
  pub session : Session

-- those of a system
abbrev pub system_parts : {S : Type 0} {G : Ghosts S} → System S G → Parts
system_parts f = record {
  kept = f.blocks.buffers.kept;
  pending = f.blocks.pending;
  root = f.root;
  slot = f.slot;
  inodes = f.inodes;
  view = f.view;
  map = f.map;
  log = f.log;
  pledged = f.pledged;
  pledged_then = f.pledged_then;
  files = f.files;
  session = f.session;
}

-- the disk that memory stands on, where a station reads this one
abbrev pub disk_over : Parts → (ℕ → List ℕ) → ℕ → List ℕ
disk_over k seen = planned_disk k.pending seen

-- that of a system
abbrev pub disk_of : {S : Type 0} {G : Ghosts S} → System S G → ℕ → List ℕ
disk_of f = disk_over (system_parts f) (meaning_of f).seen.disk

-- No consistency point is under way: what is settled is what memory stands on, and all that is
-- pledged stays so.
pub record Rests (pending : Option PendingPoint) (over settled : Base) (pledged pledged_then : ℕ) : Type 0 where
  pub none : pending ≡ None
  pub base : settled ≡ over
  pub all : pledged_then ≡ pledged

-- The consistency point under way has this root, in this slot, and leads to this volume, and to
-- these entries of the map.
pub record IsComing (m : Meaning) (log : LogEnd) (pending : Option PendingPoint) (root : Root) (slot : ℕ)
    (first : Volume) (map : BlockMap) {settled : Base} {snapshots : List (Name × Tree)} {pledged : ℕ}
    {running : Volume} (lasts : Lasts settled snapshots pledged running) (pledged_then : ℕ) : Type 0 where
  pub point : PendingPoint
  pub is : pending ≡ Some point
  pub way : IsUnderWay m log lasts
      (record { plan = point.plan; root = root; volume = first; pledged = pledged_then })
  pub sound : IsPlanned point.plan
  pub place : slot ≡ point.plan.slot
  pub to_come : HasEntriesToCome (whole (blocks_of (disk_after point.plan m.seen.disk)) root).active map

-- What a system has serves a state, over an honest station. Memory stands for the running volume,
-- which is the state's tree, over a disk that holds a volume under the newest root, and needs no
-- more than is pledged; and whatever a cut may leave has the disk that is settled, and the records
-- from there on: the same disk, or the one that a point under way leads on from. What the map has
-- settled is that disk's. The view of a snapshot is of its tree. The open files are the state's,
-- each with its size and its links.
pub record IsServing (m : Meaning) (k : Parts) (table : ℕ → Option Description) (s : State) : Type 0 where
  pub honest : m.is_honest
  pub shows : ShowsOver m k.kept k.pending (blocks_of (disk_over k m.seen.disk))
  pub first : Volume
  pub snapshots : List (Name × Tree)
  pub under : IsUnder k.slot k.root first snapshots (disk_over k m.seen.disk)
  pub running : Volume
  pub mounted : IsMounted running table
  pub memory : IsInMemory (blocks_of (disk_over k m.seen.disk)) k.root k.inodes running
  pub view : ShowsSnapshot (blocks_of (disk_over k m.seen.disk)) k.root.geometry snapshots k.view
  pub settled : Base
  pub lasts : Lasts settled snapshots k.pledged running
  pub left : EachCut m (IsLeft settled.root k.log lasts.bodies settled.disk)
  pub entries : HasEntries (whole (blocks_of settled.disk) settled.root).active k.map
  pub bridge :
      Rests k.pending (record { disk = m.seen.disk; root = k.root; volume = first }) settled k.pledged
      k.pledged_then
      ⊎ IsComing m k.log k.pending k.root k.slot first k.map lasts k.pledged_then
  pub goes : IsFalse k.log.is_stopped
  pub stored : memory_room first k.inodes running ≤ k.pledged_then
  pub opened : table ≡ table_of k.files
  pub fits : FitsVolume k.files running
  pub state : s ≡ state_with (limits_of k.root.geometry) k.session running table snapshots

-- a system serves a state
abbrev pub HasState : {S : Type 0} {G : Ghosts S} → System S G → (ℕ → Option Description) → State
    → Type 0
HasState f table s = IsServing (meaning_of f) (system_parts f) table s

-- the same, were these the objects in memory
abbrev pub HasStateBy : {S : Type 0} {G : Ghosts S} → InodeFile → System S G → (ℕ → Option Description) → State → Type 0
HasStateBy inodes f table s = IsServing (meaning_of f) (record (system_parts f) { inodes = inodes }) table s

-- the same, with this running volume, and with these records beside the root
pub record IsServingWith (m : Meaning) (k : Parts) (table : ℕ → Option Description) (s : State)
    (running : Volume) (changes : List Change) : Type 0 where
  pub serves : IsServing m k table s
  pub volume : serves.running ≡ running
  pub records : serves.lasts.replayed.changes ≡ changes

abbrev pub ServesWith : {S : Type 0} {G : Ghosts S} → System S G → (ℕ → Option Description) → State
    → Volume → List Change → Type 0
ServesWith f table s running changes =
    IsServingWith (meaning_of f) (system_parts f) table s running changes

-- of the records with these bodies the newest root covers the first ones, and those are left
abbrev pub AreLeft : List (List ℕ) → List (List ℕ) → Type 0
AreLeft before left = (covered : List (List ℕ)) × (before ≡ covered ++ left)

-- what a system has serves a state, and of the records with these bodies it has those that its root
-- doesn't cover
pub record IsServingRest (m : Meaning) (k : Parts) (table : ℕ → Option Description) (s : State)
    (before : List (List ℕ)) : Type 0 where
  pub serves : IsServing m k table s
  pub left : AreLeft before (all_bodies serves.lasts.bodies)

abbrev pub ServesRest : {S : Type 0} {G : Ghosts S} → System S G → (ℕ → Option Description) → State
    → List (List ℕ) → Type 0
ServesRest f table s before = IsServingRest (meaning_of f) (system_parts f) table s before

-- a system is covered: no point is under way, its root holds the running volume, and no record
-- stands that this root doesn't cover
pub record IsCovered {S : Type 0} {G : Ghosts S} (f : System S G) (table : ℕ → Option Description)
    (s : State) : Type 0 where
  pub rests : f.blocks.pending ≡ None
  pub serves : HasState f table s
  pub no_record : serves.lasts.bodies ≡ no_bodies
  pub held : serves.first ≡ serves.running
