-- What was planned is a point.
use Rattle.std.proofs.Common.{◌≡◌, ◌≢◌, inl, inr, ℕ, ◌+◌, ◌/◌, ◌%◌, ◌<◌, ◌≤◌, false, All, List, length, refl, ap, sym, subst, ◌∙◌, arith}
use Rattle.std.proofs.Math.Path.{fun_ext}
use Rattle.std.proofs.lemmas.Bool.{cond-true, cond-false, cases_Bool}
use Rattle.std.proofs.lemmas.List.Elements.{All-map}
use Rattle.std.proofs.lemmas.List.{get_or-map, length-map}
use Rattle.std.specs.Prelude.{if◌then◌else◌, min}
use Rattle.layout.specs.Inode.{inode_bytes}
use Rattle.layout.specs.Maps.{map_entry}
use Rattle.layout.specs.Limits.{Sizes}
use Rattle.layout.specs.Places.{Blocks, blocks_of}
use Rattle.layout.specs.Root.{IsRoot}
use Rattle.layout.specs.Trees.{level_of}
use Rattle.layout.specs.declared.inode.Inode.{Inode}
use Rattle.layout.specs.declared.root.Root.{Root}
use Rattle.layout.specs.declared.version.TheConstants.{VERSION}
use Rattle.model.specs.Volumes.{Volume}
use Rattle.buffers.specs.declared.blocks.Blocks.{Ghosts}
use Rattle.blockmap.specs.Maps.{entry_at, settled_at}
use Rattle.blockmap.specs.declared.map.BlockMap.{BlockMap}
use Rattle.conspoint.specs.Drafts.{Grows, HasAll, OnEach}
use Rattle.conspoint.specs.MapFiles.{AreTouched}
use Rattle.conspoint.specs.Space.{TakesAtMost}
use Rattle.conspoint.specs.Writes.{write_of, writes_of}
use Rattle.conspoint.specs.declared.draft.Draft.{Draft}
use Rattle.conspoint.specs.declared.plan.PlannedBlock.{PlannedBlock}
use Rattle.images.specs.BlockMap.{HasBit, entry}
use Rattle.images.specs.Contents.{Content, HoldsVolume, StandsAs, content_of, tree_contents}
use Rattle.images.specs.Cuts.{IsPointWith, LeavesFree, Write}
use Rattle.images.specs.Nodes.{held, Agrees, Names, file_block}
use Rattle.images.specs.Points.{HoldObjects, IsBase, IsPlannedOn, IsSoundPlan}
use Rattle.images.specs.Room.{IsNewHead, StoresOwn, TakesBelow, TakesFirst, free_under}
use Rattle.images.specs.Room.SharesBase.{takes, restores}
use Rattle.images.specs.Roots.{HeldTree, Needs, Reach, Whole, free_inode, whole}
use Rattle.images.specs.SnapshotSteps.{SnapshotStep, CanStep, HasHead, StepsSlots, base_plane, base_tree}
use Rattle.images.specs.Soundness.{IsOrdinary, IsSoundTree, SpellsInodes}
use Rattle.images.specs.States.{IsSound}
use Rattle.inofile.specs.Inodes.{IsChanged, files_of}
use Rattle.inofile.specs.Settled.{held_content}
use Rattle.inofile.specs.Volumes.{IsVolumeOf, MapsVolume}
use Rattle.inofile.specs.declared.inode_file.InodeFile.{InodeFile}
use Rattle.images.proofs.WithinLaws.{root_plain}
use Rattle.planning.specs.Changes.{FitsSlots, HasHeads, IsStepOf, StartsActive, StepsEntries, TouchesRestored, starting_file, starting_plane, starting_tree}
use Rattle.planning.specs.Numbers.{trimmed}
use Rattle.planning.specs.Plans.{IsAllPlanned, IsClean, IsPlanStart, IsPlannable, IsRootStart, WillHaveEntries, inodes_of}
use Rattle.planning.specs.Points.{IsComplete, planned_tree}
use Rattle.planning.specs.Progress.{Before, IsExactPlane, IsProgress, PlannedInodes}
use Rattle.planning.specs.Space.{CountsBlocks, map_stores, nodes_below, top_nodes}
use Rattle.planning.specs.Promises.{AreOfSizes}
use Rattle.planning.specs.Steps.{OverTree, settled_tree}
use Rattle.planning.specs.declared.change.SnapshotChange.{SnapshotChange}
use Rattle.planning.specs.declared.change.SnapshotChange.TheVariants.{Delete, Restore, Take, Unchanged}
use Rattle.planning.proofs.BaseLaws.{TreesAreBases, has_active, has_entries, restored_touched, start_base, start_file, start_sound, will_have}
use Rattle.planning.proofs.ChangeLaws.{SnapshotsSpelled}
use Rattle.planning.proofs.MapLaws.{numbers_mapped}
use Rattle.planning.proofs.PointLaws.{PlansFrom, ReadsPast, ReadsSpelled, point_entries, point_planned}
use Rattle.planning.proofs.ProgressLaws.{true_false}
use Rattle.planning.proofs.TrimLaws.{trimmed_stands}
use Rattle.images.proofs.EmptyLaws.{held_inode}
use Rattle.images.proofs.KindLaws.{ordinary_kind}

-- what images says of disks that agree
abbrev pub HoldsAgreed : Type 0
HoldsAgreed = (d e : Blocks) (f : Inode) → Agrees (Names (held d f)) d e → held e f ≡ held d f

-- what images says of the blocks that a point over a tree leaves free
abbrev pub LeavesRoom : Blocks → Root → HeldTree → ℕ → Type 0
LeavesRoom d r t plane = (e : Blocks) (new : Root) (files : ℕ → Content) → IsRoot new → Agrees (Needs r (whole d r)) d e
    → (plan : IsPlannedOn (whole d r) t plane r e new files) → IsSoundPlan r.geometry e plan.inode plan.changed
    → ((k b : ℕ) → IsNewHead r new k b → ⊥) → (mid : ℕ) → TakesBelow mid (λ n. n ≢ 2) r new plan.taken → TakesFirst (λ n. held e (plan.inode n)) plan.taken
    → free_under (whole d r).active r.geometry.blocks + level_of r.inode_file.layout r.inode_file.size
    ≤ free_under (whole e new).active r.geometry.blocks + free_under (whole d r).active (min mid r.geometry.blocks)

-- and where what every point stores may be shared
abbrev pub LeavesAll : Blocks → Root → HeldTree → ℕ → Type 0
LeavesAll d r t plane = (e : Blocks) (new : Root) (files : ℕ → Content) → IsRoot new → Agrees (Needs r (whole d r)) d e
    → (plan : IsPlannedOn (whole d r) t plane r e new files) → (mid : ℕ) → TakesBelow mid (λ n. Unit {0}) r new plan.taken
    → free_under (whole d r).active r.geometry.blocks ≤ free_under (whole e new).active r.geometry.blocks + free_under (whole d r).active (min mid r.geometry.blocks)

-- what holds of the tree that a step starts from holds of the one that the change does
pub by_step : (P : HeldTree → ℕ → Type 0) (change : SnapshotChange) (r : Root) (w : Whole) (step : SnapshotStep) → IsStepOf change r step → P (base_tree step w) (base_plane step)
    → P (starting_tree change w) (starting_plane change)
by_step P Unchanged r w step is has = subst (λ (s : SnapshotStep). P (base_tree s w) (base_plane s)) is has
by_step P (Take k order name) r w step is has = subst (λ (s : SnapshotStep). P (base_tree s w) (base_plane s)) is has
by_step P (Delete k) r w step is has = subst (λ (s : SnapshotStep). P (base_tree s w) (base_plane s)) is.1 has
by_step P (Restore k f) r w step is has = subst (λ (s : SnapshotStep). P (base_tree s w) (base_plane s)) is.1 has

for_step : (P : HeldTree → ℕ → Type 0) (change : SnapshotChange) (r : Root) (w : Whole) (step : SnapshotStep) → IsStepOf change r step → P (starting_tree change w) (starting_plane change)
    → P (base_tree step w) (base_plane step)
for_step P Unchanged r w step is has = subst (λ (s : SnapshotStep). P (base_tree s w) (base_plane s)) (sym is) has
for_step P (Take k order name) r w step is has = subst (λ (s : SnapshotStep). P (base_tree s w) (base_plane s)) (sym is) has
for_step P (Delete k) r w step is has = subst (λ (s : SnapshotStep). P (base_tree s w) (base_plane s)) (sym is.1) has
for_step P (Restore k f) r w step is has = subst (λ (s : SnapshotStep). P (base_tree s w) (base_plane s)) (sym is.1) has

-- the files after the point: those that are planned, and the others as they are settled
abbrev pub files_after : PlannedInodes → (ℕ → Content) → HeldTree → ℕ → Content
files_after p found t n = if p.changed n then found n else tree_contents t n

-- entries of a map in a tree
entries_of : (t : HeldTree) (b x : ℕ) → map_entry (file_block (t 2) (b / 1024)) (b % 1024) ≡ x → entry t b ≡ x
unfolding entry
entries_of t b x is = is

-- a tree that a point may start from is that of its inodes
pub tree_is : (d : Blocks) (r : Root) (t : HeldTree) (plane : ℕ) → IsBase d r t plane → settled_tree d (inodes_of t) ≡ t
tree_is d r t plane base = fun_ext (λ n. sym (base.read n))

module _ {start : Draft} (spelled : ReadsSpelled) (reads_past : ReadsPast) (same_held : HoldsAgreed) (d : Blocks) (r new : Root) (base : HeldTree) (draft : Draft) (before : Before) (found : ℕ → Content) (inodes : InodeFile) (v : Volume)
    (all : IsAllPlanned start draft d before r.geometry (settled_tree d (inodes_of base)) found inodes new.inode_file) (root : IsRoot r) (sound : IsSound r (whole d r)) (is_base : IsBase d r base before.plane)
    (base_sound : IsSoundTree r.geometry base) (past : (n : ℕ) → r.geometry.inodes ≤ n → (base n).inode ≡ free_inode r.geometry.layout)
    (before_is : (b : ℕ) → before.entry b ≡ entry (whole d r).active b) (geometry : new.geometry ≡ r.geometry)
    (maps : MapsVolume inodes.numbers.bytes.items v) (objects : HoldObjects r.geometry.inodes (files_after all.plan found (settled_tree d (inodes_of base))) v)
    (e : Blocks) (has : HasAll e draft.blocks.items) (agrees : Agrees (Needs r (whole d r)) d e) where
  abbrev t : HeldTree
  t = settled_tree d (inodes_of base)

  same_tree : t ≡ base
  same_tree = tree_is d r base before.plane is_base

  abbrev p : PlannedInodes
  p = all.plan

  abbrev files : ℕ → Content
  files = files_after p found t

  reach : Agrees (Reach t) d e
  reach b names = agrees b (is_base.needed b (subst (λ (u : HeldTree). Reach u b) same_tree names))

  progress : IsProgress r.geometry t e draft.map.next before (entry_at draft.map.parts.items) p
  progress = all.progress e has reach

  unchanged_same : (n : ℕ) → p.changed n ≡ false → held e (p.inode n) ≡ t n
  unchanged_same n isnt =
      ap (held e) (progress.stays n isnt ∙ held_inode d (inodes_of base n)) ∙ same_held d e (inodes_of base n) (λ b names. reach b (record { file = n; names = names }))

  content_all : (n : ℕ) → 3 ≤ n → content_of (held e (p.inode n)) ≡ files n
  content_all n least = elim (cases_Bool (p.changed n)) [
    | inl is ↦ all.contents e has reach n least is ∙ sym (cond-true (p.changed n) (found n) (tree_contents t n) is)
    | inr isnt ↦ ap content_of (unchanged_same n isnt) ∙ sym (cond-false (p.changed n) (found n) (tree_contents t n) isnt)
  ]

  tree_sound : IsSoundTree r.geometry t
  tree_sound = subst (IsSoundTree r.geometry) (sym same_tree) base_sound

  ordinary : (n : ℕ) → 3 ≤ n → IsOrdinary (held e (p.inode n)).inode.kind
  ordinary n least = elim (cases_Bool (p.changed n)) [
    | inl is ↦ subst (λ (i : Inode). IsOrdinary i.kind) (sym (held_inode e (p.inode n))) (ordinary_kind n (p.inode n).kind least (progress.kinds n is))
    | inr isnt ↦ subst (λ h. IsOrdinary h.inode.kind) (sym (unchanged_same n isnt)) (ordinary_kind n (t n).inode.kind least (tree_sound.kinds n))
  ]

  complete : IsComplete r new t e (entry_at draft.map.parts.items) p files
  complete = record {
    top = sym all.top_is;
    geometry = geometry;
    past = all.past;
    inodes = let said = all.spelled e has reach in subst (λ (i : Inode). SpellsInodes r.geometry.inodes (file_block (held e i)) (planned_tree e p)) (sym all.top_is) (record {
      each = λ n low high. said.each n low high ∙ ap inode_bytes (sym (held_inode e (p.inode n)));
      first = said.first;
      past = said.past;
      behind = said.behind;
    });
    entries = λ b. entries_of (planned_tree e p) b (entry_at draft.map.parts.items b) ((all.block_map e has reach).entries b);
    content = λ n least is. content_all n least;
    same = λ n least isnt. cond-false (p.changed n) (found n) (tree_contents t n) isnt;
    numbers = numbers_mapped r.geometry.inodes inodes.numbers.bytes.items (planned_tree e p) files v maps (all.inode_map e has reach).bytes_are objects content_all ordinary;
    inode_map = (all.inode_map e has reach).no_hole;
    block_map = (all.block_map e has reach).no_hole;
  }

  complete_now : IsComplete r new base e (entry_at draft.map.parts.items) p files
  complete_now = subst (λ (u : HeldTree). IsComplete r new u e (entry_at draft.map.parts.items) p files) same_tree complete

  progress_now : IsProgress r.geometry base e draft.map.next before (entry_at draft.map.parts.items) p
  progress_now = subst (λ (u : HeldTree). IsProgress r.geometry u e draft.map.next before (entry_at draft.map.parts.items) p) same_tree progress

  own : HasHeads r new start → (before.plane ≢ 0 → AreTouched start.map.parts.items) → StoresOwn before.plane (planned_tree e p) r new p.taken
  own has_heads touched = record {
    heads = λ n k b new is. let low = (has_heads k b new).0 in omega (arith, low, all.from e has reach n b is);
    map = λ b shares. elim shares [
      | takes k block new_head ↦ all.anew (has_heads k block new_head).1 e has reach b
      | restores frozen ↦ all.anew (touched frozen) e has reach b
    ];
    first = λ shares. all.first_taken e has reach;
  }

  pub plans_on : (step : SnapshotStep) → StepsEntries step r new before.entry before.entry (entry_at draft.map.parts.items) → SnapshotsSpelled → CanStep step r (whole d r) → StepsSlots step r new → HasHead step new e
      → HasHeads r new start → (before.plane ≢ 0 → AreTouched start.map.parts.items) → PlansFrom d r base before.plane e new files
  plans_on step entries heads can slots head has_heads touched =
      point_planned spelled reads_past d e r new base draft.map.next before (entry_at draft.map.parts.items) p files root sound base_sound past before_is progress_now complete_now step entries heads can slots head (own has_heads touched)

  -- and where no snapshot shares what every point stores, so many blocks stay free
  pub room_on : LeavesRoom d r base before.plane → (step : SnapshotStep) → StepsEntries step r new before.entry before.entry (entry_at draft.map.parts.items) → SnapshotsSpelled → CanStep step r (whole d r) → StepsSlots step r new
      → HasHead step new e → HasHeads r new start → (before.plane ≢ 0 → AreTouched start.map.parts.items) → IsRoot new → ((k b : ℕ) → IsNewHead r new k b → ⊥)
      → free_under (whole d r).active r.geometry.blocks + level_of r.inode_file.layout r.inode_file.size
      ≤ free_under (whole e new).active r.geometry.blocks + free_under (whole d r).active (min all.middle.map.next r.geometry.blocks)
  unfolding plans_on point_planned
  room_on law step entries heads can slots head has_heads touched new_root none =
      let plans = plans_on step entries heads can slots head has_heads touched in
      law e new files new_root agrees plans.plan plans.sound none all.middle.map.next
      (record { files = all.below e has reach; heads = λ k b is. absurd (none k b is) }) (all.first_taken e has reach)

  pub all_on : LeavesAll d r base before.plane → (step : SnapshotStep) → StepsEntries step r new before.entry before.entry (entry_at draft.map.parts.items) → SnapshotsSpelled → CanStep step r (whole d r) → StepsSlots step r new
      → HasHead step new e → HasHeads r new start → (before.plane ≢ 0 → AreTouched start.map.parts.items) → IsRoot new
      → free_under (whole d r).active r.geometry.blocks ≤ free_under (whole e new).active r.geometry.blocks + free_under (whole d r).active (min draft.map.next r.geometry.blocks)
  unfolding plans_on point_planned
  all_on law step entries heads can slots head has_heads touched new_root =
      law e new files new_root agrees (plans_on step entries heads can slots head has_heads touched).plan draft.map.next
      (record { files = λ n b any is. progress.below n b is; heads = λ k b is. let low = (has_heads k b is).0 in omega (arith, low, all.begins.next, all.goes_on.next) })

  pub entries_on : (b : ℕ) → entry (whole e new).active b ≡ entry_at draft.map.parts.items b
  entries_on = point_entries spelled reads_past d e r new base draft.map.next before (entry_at draft.map.parts.items) p files root sound base_sound past before_is progress_now complete_now

-- what inofile says of memory
pub record HoldsMemory : Type 0 where
  pub holds : (count : ℕ) (disk : Blocks) (settled : ℕ → Inode) (s : InodeFile) (v : Volume) → IsVolumeOf count disk settled s v → HoldsVolume s.geometry.inodes (files_of disk settled s) v
  pub unchanged : (count : ℕ) (disk : Blocks) (settled : ℕ → Inode) (s : InodeFile) (v : Volume) (n : ℕ) → IsVolumeOf count disk settled s v → (IsChanged s n → ⊥)
      → files_of disk settled s n ≡ held_content disk (settled n)

all_from_map : (P : Write → Type 0) (blocks : List PlannedBlock) → All P (writes_of blocks) → All (λ b. P (write_of b)) blocks
all_from_map P blocks all k x lt =
    subst P (get_or-map write_of blocks k x (write_of x) lt) (all k (write_of x) (omega (arith, lt, length-map blocks write_of)))

-- the entries that are settled, and the plane of the tree that a change starts from
abbrev pub before_of : SnapshotChange → BlockMap → Before
before_of change m = record { entry = settled_at m.parts.items; plane = starting_plane change }

-- where memory stands over that tree
abbrev pub inodes_from : SnapshotChange → Blocks → Root → ℕ → Inode
inodes_from change d r = inodes_of (starting_tree change (whole d r))

module _ {start : Draft} (spelled : ReadsSpelled) (reads_past : ReadsPast) (same_held : HoldsAgreed) (memory : HoldsMemory) (bases : TreesAreBases) (d : ℕ → List ℕ) (change : SnapshotChange) (r new : Root) (slot generation : ℕ) (m : BlockMap)
    (inodes : InodeFile) (base v : Volume) (draft : Draft) (plannable : IsPlannable change r d slot generation m inodes base v) (fits : FitsSlots change) (root : IsRoot r) (new_root : IsRoot new) (geometry : new.geometry ≡ r.geometry)
    (version : new.version ≡ VERSION) (generation_is : new.generation ≡ generation) (sizes : inodes.geometry ≡ r.geometry)
    (planned : IsAllPlanned start draft (blocks_of d) (before_of change m) inodes.geometry (settled_tree (blocks_of d) (inodes_from change (blocks_of d) r))
    (λ n. trimmed (files_of (blocks_of d) (inodes_from change (blocks_of d) r) inodes n)) inodes new.inode_file)
    (settled : (b : ℕ) → settled_at draft.map.parts.items b ≡ settled_at m.parts.items b) (has_heads : HasHeads r new start) (touched : TouchesRestored change start) where
  abbrev disk : Blocks
  disk = blocks_of d

  abbrev base_of : HeldTree
  base_of = starting_tree change (whole disk r)

  abbrev found_of : ℕ → Content
  found_of n = trimmed (files_of disk (inodes_of base_of) inodes n)

  abbrev tree_of : HeldTree
  tree_of = settled_tree disk (inodes_of base_of)

  now_planned : IsAllPlanned start draft disk (before_of change m) r.geometry tree_of found_of inodes new.inode_file
  now_planned = subst (λ (s : Sizes). IsAllPlanned start draft disk (before_of change m) s tree_of found_of inodes new.inode_file) sizes planned

  abbrev after : ℕ → Content
  after = files_after now_planned.plan found_of tree_of

  held_volume : HoldsVolume r.geometry.inodes (files_of disk (inodes_of base_of) inodes) v
  held_volume = subst (λ (s : Sizes). HoldsVolume s.inodes (files_of disk (inodes_of base_of) inodes) v) sizes (memory.holds r.geometry.blocks disk (inodes_of base_of) inodes v plannable.memory)

  objects_after : HoldObjects r.geometry.inodes after v
  objects_after n least = elim (cases_Bool (now_planned.plan.changed n)) [
    | inl is ↦ subst (λ (c : Content). StandsAs c.kind r.geometry.inodes c (v n)) (sym (cond-true (now_planned.plan.changed n) (found_of n) (tree_contents tree_of n) is))
        (trimmed_stands (files_of disk (inodes_of base_of) inodes n).kind r.geometry.inodes (files_of disk (inodes_of base_of) inodes n) (v n) (held_volume n))
    | inr isnt ↦ subst (λ (c : Content). StandsAs c.kind r.geometry.inodes c (v n)) (sym (cond-false (now_planned.plan.changed n) (found_of n) (tree_contents tree_of n) isnt))
        (subst (λ (c : Content). StandsAs c.kind r.geometry.inodes c (v n))
        (memory.unchanged r.geometry.blocks disk (inodes_of base_of) inodes v n plannable.memory (λ is. true_false ((now_planned.changed n least).1 is) isnt)) (held_volume n))
  ]

  is_base : IsBase disk r base_of (starting_plane change)
  is_base = start_base disk r plannable.sound bases change fits plannable.restored

  base_sound : IsSoundTree r.geometry base_of
  base_sound = start_sound disk r plannable.sound bases change fits plannable.restored

  past : (n : ℕ) → r.geometry.inodes ≤ n → (base_of n).inode ≡ free_inode r.geometry.layout
  past = subst (λ (s : Sizes). (n : ℕ) → s.inodes ≤ n → (base_of n).inode ≡ free_inode s.layout) sizes plannable.memory.inodes.past

  anew : starting_plane change ≢ 0 → AreTouched start.map.parts.items
  anew frozen = restored_touched change start frozen touched

  -- what is planned over the tree, on a disk that has the blocks
  from : (step : SnapshotStep) → StepsEntries step r new (settled_at m.parts.items) (settled_at m.parts.items) (entry_at draft.map.parts.items) → SnapshotsSpelled → CanStep step r (whole disk r)
      → StepsSlots step r new → (e : Blocks) → HasAll e draft.blocks.items → Agrees (Needs r (whole disk r)) disk e → HasHead step new e → PlansFrom disk r base_of (starting_plane change) e new after
  from step stepped heads can slots e all agrees head =
      plans_on spelled reads_past same_held disk r new base_of draft (before_of change m) found_of inodes v now_planned root plannable.sound is_base base_sound past plannable.entries geometry plannable.memory.mapped objects_after
      e all agrees step stepped heads can slots head has_heads anew

  pub point_is : (step : SnapshotStep) → IsStepOf change r step → StepsEntries step r new (settled_at m.parts.items) (settled_at m.parts.items) (entry_at draft.map.parts.items) → SnapshotsSpelled → CanStep step r (whole disk r)
      → StepsSlots step r new → OnEach draft (HasHead step new) → IsPointWith step r d (writes_of draft.blocks.items) slot new v
  point_is step is stepped heads can slots head = record {
    free = All-map (λ (w : Write). entry (whole disk r).active w.place ≡ 0) write_of draft.blocks.items
        (λ k x lt. sym (plannable.entries _) ∙ sym (settled _) ∙ draft.drafted.free k x lt);
    long = All-map (λ (w : Write). length w.bytes ≡ 4096) write_of draft.blocks.items draft.drafted.planned.sizes;
    slot = plannable.other;
    root = new_root;
    later = subst (λ n. r.generation < n) (sym generation_is) plannable.later;
    geometry = geometry;
    version = version;
    possible = can;
    snapshots = slots;
    head = λ e has. head e (all_from_map (λ (w : Write). e w.place ≡ w.bytes) draft.blocks.items has);
    files = after;
    plans = λ e has agrees.
        let all = all_from_map (λ (w : Write). e w.place ≡ w.bytes) draft.blocks.items has in
        let now = for_step (λ t plane. PlansFrom disk r t plane e new after) change r (whole disk r) step is (from step stepped heads can slots e all agrees (head e all)) in
        record { plan = now.plan; sound = now.sound; own = now.own };
    objects = objects_after;
    volume = plannable.volume;
  }

  -- what it leaves free, where so much is taken before the block map
  pub room_is : LeavesRoom disk r base_of (starting_plane change) → (step : SnapshotStep) → StepsEntries step r new (settled_at m.parts.items) (settled_at m.parts.items) (entry_at draft.map.parts.items) → SnapshotsSpelled
      → CanStep step r (whole disk r) → StepsSlots step r new → OnEach draft (HasHead step new) → ((k b : ℕ) → IsNewHead r new k b → ⊥) → (spent : ℕ)
      → ((middle : Draft) → Grows start middle → ((w : ℕ → ℕ) → CountsBlocks w inodes.numbers.bytes.items (file_block (tree_of 1))
      → TakesAtMost (nodes_below inodes inodes.geometry.inodes + map_stores w inodes + top_nodes inodes (tree_of 0).inode.size) start middle)
      → free_under (whole disk r).active (min middle.map.next r.geometry.blocks) ≤ spent + level_of r.inode_file.layout r.inode_file.size)
      → LeavesFree spent r disk (writes_of draft.blocks.items) new
  room_is law step stepped heads can slots head none spent few e has agrees =
      let all = all_from_map (λ (w : Write). e w.place ≡ w.bytes) draft.blocks.items has in
      let room = room_on spelled reads_past same_held disk r new base_of draft (before_of change m) found_of inodes v now_planned root plannable.sound is_base base_sound past plannable.entries geometry plannable.memory.mapped objects_after
      e all agrees law step stepped heads can slots (head e all) has_heads anew new_root none in
      omega (arith, room, few now_planned.middle now_planned.begins now_planned.few)

  -- and whatever is done with the snapshots
  pub all_is : LeavesAll disk r base_of (starting_plane change) → (step : SnapshotStep) → StepsEntries step r new (settled_at m.parts.items) (settled_at m.parts.items) (entry_at draft.map.parts.items) → SnapshotsSpelled
      → CanStep step r (whole disk r) → StepsSlots step r new → OnEach draft (HasHead step new) → (spent : ℕ)
      → free_under (whole disk r).active (min draft.map.next r.geometry.blocks) ≤ spent → LeavesFree spent r disk (writes_of draft.blocks.items) new
  all_is law step stepped heads can slots head spent few e has agrees =
      let all = all_from_map (λ (w : Write). e w.place ≡ w.bytes) draft.blocks.items has in
      let room = all_on spelled reads_past same_held disk r new base_of draft (before_of change m) found_of inodes v now_planned root plannable.sound is_base base_sound past plannable.entries geometry plannable.memory.mapped objects_after
      e all agrees law step stepped heads can slots (head e all) has_heads anew new_root in
      omega (arith, room, few)

  pub entries_are : (e : Blocks) → HasAll e draft.blocks.items → Agrees (Needs r (whole disk r)) disk e → (b : ℕ) → entry (whole e new).active b ≡ entry_at draft.map.parts.items b
  entries_are e has agrees =
      entries_on spelled reads_past same_held disk r new base_of draft (before_of change m) found_of inodes v now_planned root plannable.sound is_base base_sound past plannable.entries geometry plannable.memory.mapped objects_after e has agrees

-- where a plan of a root starts: in a tree in its grammar
module _ (bases : TreesAreBases) (d : ℕ → List ℕ) (change : SnapshotChange) (r : Root) (slot generation : ℕ) (m : BlockMap) (inodes : InodeFile) (base v : Volume) (plannable : IsPlannable change r d slot generation m inodes base v)
    (fits : FitsSlots change) where
  abbrev pub first_tree : HeldTree
  first_tree = starting_tree change (whole (blocks_of d) r)

  pub is_first : IsBase (blocks_of d) r first_tree (starting_plane change)
  is_first = start_base (blocks_of d) r plannable.sound bases change fits plannable.restored

  pub tree_same : settled_tree (blocks_of d) (inodes_of first_tree) ≡ first_tree
  tree_same = tree_is (blocks_of d) r first_tree (starting_plane change) is_first

  pub first_sound : IsSoundTree r.geometry (settled_tree (blocks_of d) (inodes_of first_tree))
  first_sound = subst (IsSoundTree r.geometry) (sym tree_same) (start_sound (blocks_of d) r plannable.sound bases change fits plannable.restored)

  pub first_exact : IsExactPlane (settled_tree (blocks_of d) (inodes_of first_tree)) (before_of change m)
  first_exact = subst (λ (u : HeldTree). IsExactPlane u (before_of change m)) (sym tree_same)
      (λ b. (
        λ has. (is_first.exact b).0 (subst (HasBit (starting_plane change)) (plannable.entries b) has),
        λ reach. subst (HasBit (starting_plane change)) (sym (plannable.entries b)) ((is_first.exact b).1 reach),
      ))

  module _ {B : Type 0} (G : Ghosts B) (x : B) (shows : G.Shows x (blocks_of d)) (sizes : AreOfSizes r inodes (G.count x) m) where
    abbrev pub over_first : OverTree G x inodes
    over_first = record {
      disk = blocks_of d;
      settled = inodes_from change (blocks_of d) r;
      volume = v;
      before = before_of change m;
      shows = shows;
      memory = subst (λ n. IsVolumeOf n (blocks_of d) (inodes_of first_tree) inodes v) (sym sizes.disk) plannable.memory;
      once = first_sound.once;
      exact = first_exact;
    }

    pub start_is : (draft : Draft) → IsClean m → draft.map ≡ m → IsRootStart over_first change draft r
    start_is draft clean map_is = record {
      plain = ap (λ (s : Sizes). s.layout) sizes.sizes ∙ root_plain r sizes.root_is;
      sound = subst (λ (s : Sizes). IsSoundTree s (settled_tree (blocks_of d) (inodes_of first_tree))) (sym sizes.sizes) first_sound;
      top = start_file (blocks_of d) r change plannable.restored;
      plane = refl;
      clean = subst IsClean (sym map_is) clean;
      same = λ b. ap (λ (y : BlockMap). settled_at y.parts.items b) map_is;
      entries = subst (λ (u : HeldTree). WillHaveEntries change draft.map.count (settled_at m.parts.items) u) (sym tree_same)
          (will_have (blocks_of d) r plannable.sound change draft.map.count (settled_at m.parts.items) (ap (λ (y : BlockMap). y.count) map_is ∙ sizes.size) plannable.entries plannable.restored);
    }

-- where that of its files starts, once the snapshots are changed, in a draft that grew
pub start_later : {B : Type 0} {G : Ghosts B} {x : B} {inodes : InodeFile} {o : OverTree G x inodes} (change : SnapshotChange) (old new : Draft) (r : Root) (top : Inode) → IsRootStart o change old r → top ≡ starting_file change r
    → Grows old new → StartsActive change (settled_at old.map.parts.items) (entry_at old.map.parts.items) (entry_at new.map.parts.items) → TouchesRestored change new → IsPlanStart o new top
start_later {o = o} change old new r top start top_is grows starts touched = record {
  map = record { plain = start.plain; sound = start.sound; same = λ b. grows.settled.settled b ∙ start.same b; entries = has_entries change old new o.before.entry (settled_tree o.disk o.settled) grows touched start.entries };
  top = start.top ∙ sym top_is;
  active = has_active change o.before (settled_at old.map.parts.items) (entry_at old.map.parts.items) (entry_at new.map.parts.items) start.plane start.same start.clean starts;
}
