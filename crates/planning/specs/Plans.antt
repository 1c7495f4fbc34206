-- What a whole plan starts from, and what its parts come to.
use Rattle.std.specs.Prelude.{ℕ, ◌≡◌, ◌≢◌, ◌↔◌, ◌+◌, ◌*◌, ◌/◌, ◌%◌, ◌<◌, ◌≤◌, Bool, true, false, List, length}
use Rattle.layout.specs.StateLimits.{limits_of}
use Rattle.layout.specs.Inode.{inode_bytes}
use Rattle.layout.specs.Limits.{Sizes}
use Rattle.layout.specs.Maps.{map_entry}
use Rattle.layout.specs.Places.{Blocks, blocks_of}
use Rattle.layout.specs.declared.trees.Layout.TheVariants.{Plain}
use Rattle.layout.specs.declared.TheConstants.{BLOCK_BYTES, INODE_BYTES, INODES_PER_BLOCK}
use Rattle.layout.specs.declared.inode.Inode.{Inode}
use Rattle.layout.specs.declared.pointer.Pointer.TheVariants.{Block}
use Rattle.layout.specs.declared.root.Root.{Root}
use Rattle.model.specs.Volumes.{IsVolume, Volume}
use Rattle.buffers.specs.Disks.{IsWhole}
use Rattle.buffers.specs.declared.blocks.Blocks.{Ghosts}
use Rattle.blockmap.specs.Maps.{IsTouched, entry_at, settled_at}
use Rattle.blockmap.specs.declared.map.BlockMap.{BlockMap}
use Rattle.conspoint.specs.Drafts.{Grows, HasAll, OnEach}
use Rattle.conspoint.specs.MapFiles.{AreTouched}
use Rattle.conspoint.specs.Plans as plans
use Rattle.conspoint.specs.Space.{TakesAtMost}
use Rattle.conspoint.specs.declared.draft.Draft.{Draft}
use Rattle.images.specs.BlockMap.{entry}
use Rattle.images.specs.Contents.{Content, HoldsVolume, content_bytes, content_of, tree_contents}
use Rattle.images.specs.Cuts.{IsOtherSlot}
use Rattle.images.specs.InodeFiles.{spliced_at}
use Rattle.images.specs.Nodes.{Agrees, Held, Names, file_block, held}
use Rattle.images.specs.Room.{TakesFirst}
use Rattle.images.specs.Roots.{HeldTree, Needs, Reach, whole}
use Rattle.images.specs.Soundness.{HasNoHole, IsSoundTree}
use Rattle.images.specs.States.{IsSound}
use Rattle.inode.specs.Files.{file_block as changed_block}
use Rattle.inode.specs.declared.file.File.{File}
use Rattle.inode.specs.declared.object.Object.{Object}
use Rattle.inofile.specs.Inodes.{IsChanged, files_of}
use Rattle.inofile.specs.Volumes.{IsVolumeOf}
use Rattle.inofile.specs.declared.inode_file.InodeFile.{InodeFile}
use Rattle.placement.specs.Files.{object_block, with_first}
use Rattle.planning.specs.Changes.{HasHeads, HasRestored, TouchesRestored, head_nodes, starting_file, starting_plane, starting_tree}
use Rattle.planning.specs.Inodes.{AreSpelled}
use Rattle.planning.specs.Numbers.{trimmed}
use Rattle.planning.specs.Progress.{Before, HasActive, IsProgress, PlannedInodes, with_planned_file}
use Rattle.planning.specs.Space.{CountsBlocks, map_stores, nodes_below, top_nodes}
use Rattle.planning.specs.Steps.{HasSettled, IsPlanUnderWay, OverTree, settled_tree, tree_of}
use Rattle.planning.specs.declared.change.SnapshotChange.{SnapshotChange}
use Rattle.planning.specs.declared.change.SnapshotChange.TheVariants.{Unchanged, Take, Delete, Restore}

-- no entry of the map is changed since the root
abbrev pub IsClean : BlockMap → Type 0
IsClean m = (b : ℕ) → entry_at m.parts.items b ≡ settled_at m.parts.items b

-- the inodes of a tree by number
abbrev pub inodes_of : HeldTree → ℕ → Inode
inodes_of t n = (t n).inode

-- A point may be planned: all that the root holds on the disk is in its grammar, the map has its
-- entries, the tree that the point starts from holds a volume, and memory stands over it for the
-- volume that is to be settled.
pub record IsPlannable (change : SnapshotChange) (root : Root) (d : ℕ → List ℕ) (slot generation : ℕ) (m : BlockMap) (inodes : InodeFile) (base v : Volume) : Type 0 where
  pub other : IsOtherSlot root d slot
  pub later : root.generation < generation
  pub sound : IsSound root (whole (blocks_of d) root)
  pub entries : (b : ℕ) → settled_at m.parts.items b ≡ entry (whole (blocks_of d) root).active b
  pub restored : HasRestored change root (whole (blocks_of d) root)
  pub holds : HoldsVolume root.geometry.inodes (tree_contents (starting_tree change (whole (blocks_of d) root))) base
  pub base_volume : IsVolume (limits_of root.geometry) base
  pub memory : IsVolumeOf root.geometry.blocks (blocks_of d) (inodes_of (starting_tree change (whole (blocks_of d) root))) inodes v
  pub volume : IsVolume (limits_of root.geometry) v

-- On each disk that has the blocks of a plan, and those that the old root needs, the new root's map
-- has these entries.
abbrev pub PlansEntries : Blocks → Root → plans.Planned → Root → BlockMap → Type 0
PlansEntries disk root p new map =
    (e : Blocks) → HasAll e p.blocks → Agrees (Needs root (whole disk root)) disk e
    → (b : ℕ) → entry (whole e new).active b ≡ entry_at map.parts.items b

-- the settled entries are those of a tree's map, but where the map is stored anew
abbrev pub HasEntries : Draft → (ℕ → ℕ) → HeldTree → Type 0
HasEntries d settled t =
    (b : ℕ) → (b < d.map.count → IsTouched d.map.parts.items (b / 1024) → ⊥) → settled b ≡ entry t b

-- the same where all of the map will be stored to restore a snapshot
abbrev pub WillHaveEntries : SnapshotChange → ℕ → (ℕ → ℕ) → HeldTree → Type 0
WillHaveEntries Unchanged count settled t = (b : ℕ) → settled b ≡ entry t b
WillHaveEntries (Take k order name) count settled t = (b : ℕ) → settled b ≡ entry t b
WillHaveEntries (Delete k) count settled t = (b : ℕ) → settled b ≡ entry t b
WillHaveEntries (Restore k f) count settled t = (b : ℕ) → count ≤ b → settled b ≡ entry t b

-- A tree in its grammar, whose map's entries are the settled ones, but where the map is stored
-- anew.
pub record IsMapStart {B : Type 0} {G : Ghosts B} {blocks : B} {inodes : InodeFile} (o : OverTree G blocks inodes) (d : Draft) : Type 0 where
  pub plain : inodes.geometry.layout ≡ Plain
  pub sound : IsSoundTree inodes.geometry (tree_of o)
  pub same : HasSettled d o.before.entry
  pub entries : HasEntries d o.before.entry (tree_of o)

-- What the planning of files starts from: such a tree under this inode of its inode file, whose
-- blocks are set 0 in the draft.
pub record IsPlanStart {B : Type 0} {G : Ghosts B} {blocks : B} {inodes : InodeFile} (o : OverTree G blocks inodes) (d : Draft) (inode_file : Inode) : Type 0 where
  pub map : IsMapStart o d
  pub top : o.settled 0 ≡ inode_file
  pub active : HasActive o.before (entry_at d.map.parts.items)

-- What a whole plan starts from, over a map with no change: the tree that the change starts from.
pub record IsRootStart {B : Type 0} {G : Ghosts B} {blocks : B} {inodes : InodeFile} (o : OverTree G blocks inodes) (change : SnapshotChange) (d : Draft) (root : Root) : Type 0 where
  pub plain : inodes.geometry.layout ≡ Plain
  pub sound : IsSoundTree inodes.geometry (tree_of o)
  pub top : o.settled 0 ≡ starting_file change root
  pub plane : o.before.plane ≡ starting_plane change
  pub clean : IsClean d.map
  pub same : HasSettled d o.before.entry
  pub entries : WillHaveEntries change d.map.count o.before.entry (tree_of o)

-- this holds of each disk that has the blocks planned so far, and those of the settled tree
abbrev pub OnEachOver : HeldTree → Blocks → Draft → (Blocks → Type 0) → Type 0
OnEachOver t disk d P = OnEach d (λ e. Agrees (Reach t) disk e → P e)

-- what is planned so far holds on a disk, and on each of these
abbrev pub IsProgressOf : Draft → Sizes → HeldTree → Blocks → Before → PlannedInodes → Type 0
IsProgressOf d s t e before p = IsProgress s t e d.map.next before (entry_at d.map.parts.items) p

abbrev pub Progresses : Draft → Blocks → Before → Sizes → HeldTree → PlannedInodes → Type 0
Progresses d disk before s t p = OnEachOver t disk d (λ e. IsProgressOf d s t e before p)

-- a file that is an inode map with these bytes
pub record IsInodeMapOn (bytes : List ℕ) (h : Held) : Type 0 where
  pub bytes_are : content_bytes (content_of h) ≡ bytes
  pub no_hole : HasNoHole h

-- The inode map is planned too, with these bytes; which other numbers are changed stays.
pub record HasInodeMap (bytes : List ℕ) (changed : ℕ → Bool) (from : ℕ) (d : Draft) (disk : Blocks) (before : Before) (s : Sizes) (t : HeldTree) (found : ℕ → Content) (file : File) : Type 0 where
  pub way : IsPlanUnderWay d disk before s t found file
  pub from_is : way.plan.from ≡ from
  pub others : (k : ℕ) → k ≢ 1 → way.plan.changed k ≡ changed k
  pub map : OnEachOver t disk d (λ e. IsInodeMapOn bytes (held e (way.plan.inode 1)))

-- The inode file is planned with this inode, but for the bytes of its first block: its blocks are
-- those in memory, and first the whole one that is put there.
pub record HasTop (p : PlannedInodes) (d : Draft) (disk : Blocks) (before : Before) (s : Sizes) (t : HeldTree) (top : Object) (f : Inode) (first : ℕ) : Type 0 where
  pub taken : ℕ → Bool
  pub progress : OnEachOver t disk d (λ e. IsWhole (e first) → IsProgressOf d s t e before (with_planned_file 0 f taken p))
  pub first_taken : OnEachOver t disk d (λ e. IsWhole (e first) → (b : ℕ) → (held e f).place 0 0 ≡ Block b → taken b ≡ true)
  pub blocks : OnEachOver t disk d (λ e. (i : ℕ)
      → file_block (held e f) i ≡ with_first (e first) (object_block disk top) i)

-- on a disk, a file that is a block map with these entries
pub record IsBlockMapOn (entry_of : ℕ → ℕ) (h : Held) : Type 0 where
  pub entries : (b : ℕ) → map_entry (file_block h (b / 1024)) (b % 1024) ≡ entry_of b
  pub no_hole : HasNoHole h

-- The block map is planned with this inode, over what was planned so far. Where each of its blocks
-- was to be stored before, its whole file is taken.
pub record HasBlockMap (start : Draft) (p : PlannedInodes) (d : Draft) (disk : Blocks) (before : Before) (s : Sizes) (t : HeldTree) (f : Inode) : Type 0 where
  pub taken : ℕ → Bool
  pub progress : OnEachOver t disk d (λ e. IsProgressOf start s t e before p → IsProgressOf d s t e before (with_planned_file 2 f taken p))
  pub map : OnEachOver t disk d (λ e. IsBlockMapOn (entry_at d.map.parts.items) (held e f))
  pub anew : AreTouched start.map.parts.items → OnEachOver t disk d (λ e. (b : ℕ) → Names (held e f) b → taken b ≡ true)

-- The block map is planned, and the inode file's first block: that of memory with the map's inode
-- in its place.
pub record HasLast (start : Draft) (p : PlannedInodes) (d : Draft) (disk : Blocks) (before : Before) (s : Sizes) (t : HeldTree) (file : File) (first : ℕ) : Type 0 where
  pub map : Inode
  pub planned : HasBlockMap start p d disk before s t map
  pub put : OnEach d (λ e. e first ≡ spliced_at (INODE_BYTES * (2 % INODES_PER_BLOCK)) (inode_bytes map) (changed_block disk file (2 / INODES_PER_BLOCK)))
  pub whole : length (changed_block disk file (2 / INODES_PER_BLOCK)) ≡ BLOCK_BYTES
  pub long : length (inode_bytes map) ≡ INODE_BYTES

-- Just the numbers that are changed in memory are planned, and the inode map.
pub record PlansNumbers (from : ℕ) (d : Draft) (disk : Blocks) (settled : ℕ → Inode) (before : Before) (inodes : InodeFile) (file : File) : Type 0 where
  pub changed : ℕ → Bool
  pub just : (n : ℕ) → (changed n ≡ true) ↔ IsChanged inodes n
  pub map : HasInodeMap inodes.numbers.bytes.items changed from d disk before inodes.geometry (settled_tree disk settled)
      (λ n. trimmed (files_of disk settled inodes n)) file

-- All that changed in memory is planned, with this inode of the inode file. All blocks but the
-- block map's were taken before a draft in the middle, and so many at the most.
pub record IsAllPlanned (start d : Draft) (disk : Blocks) (before : Before) (s : Sizes) (t : HeldTree) (found : ℕ → Content) (inodes : InodeFile) (top : Inode) : Type 0 where
  pub plan : PlannedInodes
  pub top_is : plan.inode 0 ≡ top
  pub first : plan.changed 0 ≡ true
  pub progress : Progresses d disk before s t plan
  pub past : (n : ℕ) → s.inodes ≤ n → plan.changed n ≡ false
  pub changed : (n : ℕ) → 3 ≤ n → (plan.changed n ≡ true) ↔ IsChanged inodes n
  pub contents : OnEachOver t disk d (λ e. (n : ℕ) → 3 ≤ n → plan.changed n ≡ true
      → content_of (held e (plan.inode n)) ≡ found n)
  pub spelled : OnEachOver t disk d (λ e. AreSpelled s.inodes (file_block (held e top)) plan.inode)
  pub inode_map : OnEachOver t disk d (λ e. IsInodeMapOn inodes.numbers.bytes.items (held e (plan.inode 1)))
  pub block_map : OnEachOver t disk d (λ e. IsBlockMapOn (entry_at d.map.parts.items) (held e (plan.inode 2)))
  pub middle : Draft
  pub begins : Grows start middle
  pub goes_on : Grows middle d
  pub few : (w : ℕ → ℕ) → CountsBlocks w inodes.numbers.bytes.items (file_block (t 1))
      → TakesAtMost (nodes_below inodes inodes.geometry.inodes + map_stores w inodes + top_nodes inodes (t 0).inode.size) start middle
  pub from : OnEachOver t disk d (λ e. (n b : ℕ) → plan.taken n b ≡ true → start.map.next ≤ b)
  pub below : OnEachOver t disk d (λ e. (n b : ℕ) → n ≢ 2 → plan.taken n b ≡ true → b < middle.map.next)
  pub first_taken : OnEachOver t disk d (λ e. TakesFirst (λ n. held e (plan.inode n)) plan.taken)
  pub anew : AreTouched start.map.parts.items
      → OnEachOver t disk d (λ e. (b : ℕ) → Names (held e (plan.inode 2)) b → plan.taken 2 b ≡ true)

-- The whole plan, of which the part of the snapshots comes first: of a new one the root block lies
-- before all that is taken then, and the whole block map is to be stored, as it is where one is
-- restored.
pub record IsRootPlanned (change : SnapshotChange) (root new : Root) (old d : Draft) (disk : Blocks) (before : Before) (s : Sizes) (t : HeldTree) (found : ℕ → Content) (inodes : InodeFile) : Type 0 where
  pub start : Draft
  pub grows : Grows old start
  pub takes : TakesAtMost (head_nodes change) old start
  pub heads : HasHeads root new start
  pub touched : TouchesRestored change start
  pub all : IsAllPlanned start d disk before s t found inodes new.inode_file
