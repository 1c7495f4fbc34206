use Rattle.planning.specs.Plans.{inodes_of}
use Rattle.std.proofs.Common.{◌≡◌, ℕ, ◌+◌, ◌*◌, ◌<◌, ◌≤◌, List, ap, sym, subst, ◌∙◌, arith, rules}
use Rattle.std.specs.Prelude.{min}
use Rattle.layout.specs.Limits.{Sizes}
use Rattle.layout.specs.Places.{Blocks, blocks_of}
use Rattle.layout.specs.Root.{IsRoot}
use Rattle.layout.specs.Trees.{level_of}
use Rattle.layout.specs.declared.inode.Inode.{Inode}
use Rattle.layout.specs.declared.root.Root.{Root}
use Rattle.model.specs.Records.{count_orphans}
use Rattle.layout.specs.StateLimits.{fixed_of, limits_of}
use Rattle.model.specs.Volumes.{KeepsNodeLimits, Volume}
use Rattle.blockmap.specs.Maps.{entry_at, settled_at}
use Rattle.blockmap.specs.Space.{left}
use Rattle.blockmap.specs.declared.map.BlockMap.{BlockMap}
use Rattle.conspoint.specs.Drafts.{Grows, HasAll}
use Rattle.conspoint.specs.Plans.{Planned}
use Rattle.conspoint.specs.Space.{TakesAtMost}
use Rattle.conspoint.specs.Writes.{writes_of}
use Rattle.conspoint.specs.declared.draft.Draft.{Draft}
use Rattle.conspoint.specs.declared.error.PlanError.TheVariants.{Damaged, NoSpace}
use Rattle.conspoint.proofs.DraftLemmas.{grows_twice}
use Rattle.conspoint.proofs.StepLemmas.{no_error}
use Rattle.images.specs.Cuts.{IsPointWith, LeavesFree}
use Rattle.images.specs.BlockMap.{entry}
use Rattle.images.specs.Nodes.{Agrees, file_block, held}
use Rattle.images.specs.Room.{free_under}
use Rattle.images.specs.Roots.{HeldTree, Needs, whole}
use Rattle.images.specs.SnapshotSteps.{CanStep, SnapshotStep}
use Rattle.images.proofs.EmptyLaws.{held_inode}
use Rattle.inofile.specs.Inodes.{files_of}
use Rattle.inofile.specs.Room.{memory_room}
use Rattle.inofile.specs.declared.inode_file.InodeFile.{InodeFile}
use Rattle.planning.specs.Changes.{FitsSlots, IsStepOf, SharesNone, StepsEntries, head_nodes, starting_plane, starting_tree}
use Rattle.planning.specs.Numbers.{trimmed}
use Rattle.planning.specs.Plans.{IsPlannable, IsRootPlanned, IsRootStart}
use Rattle.planning.specs.Space.{CountsBlocks, map_file_nodes, point_stores, top_nodes}
use Rattle.planning.specs.Progress.{Before}
use Rattle.planning.specs.Steps.{OverTree, settled_tree}
use Rattle.planning.proofs.ChangeLaws.{entries_of, no_head, none_stored, one_head}
use Rattle.planning.specs.declared.change.SnapshotChange.{SnapshotChange}
use Rattle.planning.proofs.BaseLaws.{TreesAreBases, start_base, start_sound}
use Rattle.planning.proofs.StartLaws.{start_size, top_small}
use Rattle.images.proofs.WithinLaws.{root_plain}
use Rattle.planning.proofs.NeedLaws.{all_plain, fixed_needs, map_moves, moves_count, point_needs}
use Rattle.planning.proofs.PlanLaws.{HoldsMemory, LeavesAll, LeavesRoom, all_is, before_of, by_step, entries_are, inodes_from, over_first, point_is, room_is, start_is, tree_is}
use Rattle.planning.proofs.RoomLaws.{spent_most}
use Rattle.planning.proofs.TellLaws.{moves_told}
use Rattle.planning.proofs.points.plan.Given.{Over}
use Rattle.planning.proofs.points.plan.Goals as goal
use Rattle.planning.proofs.points.plan.Goals.{In-Ok}

module _ (bases : TreesAreBases) (change : SnapshotChange) (d : ℕ → List ℕ) (r : Root) (slot generation : ℕ) (m : BlockMap) (inodes : InodeFile) (base v : Volume) (plannable : IsPlannable change r d slot generation m inodes base v)
    (fits : FitsSlots change) where
  -- the blocks of the inode map of whose numbers an object came or went
  told : CountsBlocks (map_moves base v) inodes.numbers.bytes.items (file_block (held (blocks_of d) (inodes_from change (blocks_of d) r 1)))
  told =
      let disk = blocks_of d in
      let t = starting_tree change (whole disk r) in
      subst (λ (u : HeldTree). CountsBlocks (map_moves base v) inodes.numbers.bytes.items (file_block (u 1))) (sym (tree_is disk r t (starting_plane change) (start_base disk r plannable.sound bases change fits plannable.restored)))
      (moves_told (map_moves base v) r.geometry t inodes.numbers.bytes.items base v (start_sound disk r plannable.sound bases change fits plannable.restored) plannable.holds plannable.memory.mapped (moves_count base v))

  -- what a plan takes, for what memory has
  needed : inodes.geometry ≡ r.geometry → IsRoot r → point_stores (map_moves base v) r inodes m.count + 4 * count_orphans inodes.geometry.inodes v ≤ memory_room base inodes v + level_of r.inode_file.layout r.inode_file.size + map_file_nodes m.count
  needed sizes root =
      let least = root.head.sizes.least_inodes in
      point_needs r inodes base v m.count
      (all_plain r.geometry.blocks (blocks_of d) (inodes_of (starting_tree change (whole (blocks_of d) r))) inodes v (ap (λ (s : Sizes). s.layout) sizes ∙ root_plain r root) plannable.memory)
      (root.inode_file.layout ∙ ap (λ (s : Sizes). s.layout) (sym sizes)) (subst (λ (s : Sizes). KeepsNodeLimits (limits_of s) base) (sym sizes) plannable.base_volume.keeps)
      (subst (λ (s : Sizes). KeepsNodeLimits (limits_of s) v) (sym sizes) plannable.volume.keeps) (subst (λ (s : Sizes). 3 < s.inodes) (sym sizes) (omega (arith, least))) (top_small inodes.geometry.layout r root)

module _ (g : Over) (c : In-Ok g) (d : ℕ → List ℕ) (base v : Volume) (shows : g.B.Blocks.Shows c.args.blocks.now (blocks_of d))
    (plannable : IsPlannable c.args.change.now c.args.root.now d c.args.slot c.args.generation c.args.map c.args.inodes.now base v) where
  abbrev disk : Blocks
  disk = blocks_of d

  abbrev r : Root
  r = c.args.root.now

  abbrev inodes : InodeFile
  inodes = c.args.inodes.now

  abbrev change : SnapshotChange
  change = c.args.change.now

  abbrev over : ℕ → Inode
  over = inodes_from change disk r

  abbrev before : Before
  before = before_of change c.args.map

  abbrev old : Draft
  old = c.new-draft.result

  abbrev draft : Draft
  draft = c.plan_root.new.draft

  bases : TreesAreBases
  bases = record { steps = c.trees_are_bases.ensures.steps; sound = c.trees_are_bases.ensures.sound }

  abbrev base_here : OverTree g.B.Blocks c.args.blocks.now inodes
  base_here = over_first bases d change r c.args.slot c.args.generation c.args.map inodes base v plannable c.requires.fits g.B.Blocks c.args.blocks.now shows c.requires.sizes

  start : IsRootStart base_here change old r
  start = start_is bases d change r c.args.slot c.args.generation c.args.map inodes base v plannable c.requires.fits g.B.Blocks c.args.blocks.now shows c.requires.sizes old c.requires.clean c.new-draft.ensures.map

  planned : IsRootPlanned change r c.in-Ok.root old draft disk before inodes.geometry (settled_tree disk over) (λ n. trimmed (files_of disk over inodes n)) inodes
  planned = c.in-Ok.ensures.planned base_here start

  same : (b : ℕ) → settled_at old.map.parts.items b ≡ before.entry b
  same b = ap (λ (x : BlockMap). settled_at x.parts.items b) c.new-draft.ensures.map

  settled : (b : ℕ) → settled_at draft.map.parts.items b ≡ before.entry b
  settled b = c.plan_root.ensures.step.grows.settled.settled b ∙ same b

  memory : HoldsMemory
  memory = record { holds = c.memory_holds_its_volume.ensures.holds; unchanged = c.memory_holds_its_volume.ensures.unchanged }

  stepped : (step : SnapshotStep) → IsStepOf change r step → StepsEntries step r c.in-Ok.root before.entry before.entry (entry_at draft.map.parts.items)
  stepped step is = entries_of step r c.in-Ok.root c.args.map old.map (entry_at draft.map.parts.items) c.new-draft.ensures.map c.requires.clean (c.in-Ok.ensures.sets step is)

  point_here : (step : SnapshotStep) → IsStepOf change r step → CanStep step r (whole disk r) → IsPointWith step r d (writes_of draft.blocks.items) c.args.slot c.in-Ok.root v
  point_here step is can =
      let made = c.in-Ok.ensures.steps step is in
      point_is c.inodes_are_what_their_bytes_spell.ensures.spelled c.inodes_are_what_their_bytes_spell.ensures.past c.disks_that_agree_hold_the_same.ensures.file memory bases d change r c.in-Ok.root c.args.slot c.args.generation c.args.map
      inodes base v draft plannable c.requires.fits c.requires.sizes.root_is c.in-Ok.ensures.step.root c.in-Ok.ensures.step.geometry c.in-Ok.ensures.step.version c.in-Ok.ensures.step.generation c.requires.sizes.sizes planned.all settled planned.heads
      planned.touched step is (stepped step is) c.snapshots_are_what_their_bytes_spell.ensures can made.slots made.head

  entries_here : (e : Blocks) → HasAll e draft.blocks.items → Agrees (Needs r (whole disk r)) disk e → (b : ℕ) → entry (whole e c.in-Ok.root).active b ≡ entry_at draft.map.parts.items b
  entries_here =
      entries_are c.inodes_are_what_their_bytes_spell.ensures.spelled c.inodes_are_what_their_bytes_spell.ensures.past c.disks_that_agree_hold_the_same.ensures.file memory bases d change r c.in-Ok.root c.args.slot c.args.generation c.args.map
      inodes base v draft plannable c.requires.fits c.requires.sizes.root_is c.in-Ok.ensures.step.root c.in-Ok.ensures.step.geometry c.in-Ok.ensures.step.version c.in-Ok.ensures.step.generation c.requires.sizes.sizes planned.all settled planned.heads
      planned.touched

  -- the free blocks before those that a draft gives out next, where it took so many at the most
  taken_few : (mid : Draft) (n : ℕ) → c.args.map.next ≡ 2 → Grows old mid → TakesAtMost n old mid → free_under (whole disk r).active (min mid.map.next r.geometry.blocks) ≤ n
  taken_few mid n fresh grows takes =
      let count : old.map.count ≡ r.geometry.blocks = ap (λ (x : BlockMap). x.count) c.new-draft.ensures.map ∙ c.requires.sizes.size in
      spent_most r (whole disk r) old mid n r.geometry.blocks plannable.sound.exact (ap (λ (x : BlockMap). x.next) c.new-draft.ensures.map ∙ fresh)
      count (grows.count ∙ count) (λ b. same b ∙ plannable.entries b) (λ b. grows.settled.settled b ∙ same b ∙ plannable.entries b) takes

  need : point_stores (map_moves base v) r inodes c.args.map.count + 4 * count_orphans inodes.geometry.inodes v ≤ memory_room base inodes v + level_of r.inode_file.layout r.inode_file.size + map_file_nodes c.args.map.count
  need = needed bases change d r c.args.slot c.args.generation c.args.map inodes base v plannable c.requires.fits c.requires.sizes.sizes c.requires.sizes.root_is

  counted : CountsBlocks (map_moves base v) inodes.numbers.bytes.items (file_block (held disk (over 1)))
  counted = told bases change d r c.args.slot c.args.generation c.args.map inodes base v plannable c.requires.fits

  all_law : (step : SnapshotStep) → IsStepOf change r step → CanStep step r (whole disk r) → LeavesAll disk r (starting_tree change (whole disk r)) (starting_plane change)
  all_law step is can = by_step (LeavesAll disk r) change r (whole disk r) step is
      (λ e new files new_root agrees plan mid below. c.points_leave_room.ensures.all disk e r new files c.requires.sizes.root_is new_root plannable.sound agrees step can plan mid below)

  room_law : (step : SnapshotStep) → IsStepOf change r step → CanStep step r (whole disk r) → LeavesRoom disk r (starting_tree change (whole disk r)) (starting_plane change)
  room_law step is can = by_step (LeavesRoom disk r) change r (whole disk r) step is
      (λ e new files new_root agrees plan good none mid below firsts. c.points_leave_room.ensures.own disk e r new files c.requires.sizes.root_is new_root plannable.sound agrees step can plan good none mid below firsts)

  leaves_here : c.args.map.next ≡ 2 → (step : SnapshotStep) → IsStepOf change r step → CanStep step r (whole disk r) → (spent : ℕ)
      → memory_room base inodes v + fixed_of c.args.map.count ≤ spent + 4 * count_orphans inodes.geometry.inodes v
      → LeavesFree spent r disk (writes_of draft.blocks.items) c.in-Ok.root
  leaves_here fresh step is can spent most =
      let made = c.in-Ok.ensures.steps step is in
      let stores = c.in-Ok.ensures.step.takes base_here (map_moves base v) counted in
      let number = ap (λ (x : BlockMap). point_stores (map_moves base v) r inodes x.count) c.new-draft.ensures.map in
      all_is c.inodes_are_what_their_bytes_spell.ensures.spelled c.inodes_are_what_their_bytes_spell.ensures.past c.disks_that_agree_hold_the_same.ensures.file memory bases d change r c.in-Ok.root c.args.slot c.args.generation c.args.map
      inodes base v draft plannable c.requires.fits c.requires.sizes.root_is c.in-Ok.ensures.step.root c.in-Ok.ensures.step.geometry c.in-Ok.ensures.step.version c.in-Ok.ensures.step.generation c.requires.sizes.sizes planned.all settled planned.heads
      planned.touched (all_law step is can) step (stepped step is) c.snapshots_are_what_their_bytes_spell.ensures can made.slots made.head spent
      (taken_few draft spent fresh c.plan_root.ensures.step.grows (omega (arith, stores, number, need, most, fixed_needs r.inode_file.layout r.inode_file.size c.args.map.count (top_small r.inode_file.layout r c.requires.sizes.root_is), one_head change)))

  room_here : c.args.map.next ≡ 2 → (step : SnapshotStep) → IsStepOf change r step → SharesNone step → CanStep step r (whole disk r) → (spent : ℕ)
      → memory_room base inodes v ≤ spent + 4 * count_orphans inodes.geometry.inodes v → LeavesFree spent r disk (writes_of draft.blocks.items) c.in-Ok.root
  room_here fresh step is none can spent most =
      let made = c.in-Ok.ensures.steps step is in
      let no_block = none_stored change r step is none in
      let size : (held disk (over 0)).inode.size ≡ r.inode_file.size = ap (λ (i : Inode). i.size) (held_inode disk (over 0) ∙ start.top) ∙ start_size start c.requires.sizes.root_is c.requires.sizes.sizes in
      room_is c.inodes_are_what_their_bytes_spell.ensures.spelled c.inodes_are_what_their_bytes_spell.ensures.past c.disks_that_agree_hold_the_same.ensures.file memory bases d change r c.in-Ok.root c.args.slot c.args.generation c.args.map
      inodes base v draft plannable c.requires.fits c.requires.sizes.root_is c.in-Ok.ensures.step.root c.in-Ok.ensures.step.geometry c.in-Ok.ensures.step.version c.in-Ok.ensures.step.generation c.requires.sizes.sizes planned.all settled planned.heads
      planned.touched (room_law step is can) step (stepped step is) c.snapshots_are_what_their_bytes_spell.ensures can made.slots made.head (no_head step r c.in-Ok.root none made.slots) spent
      (λ middle grows tells.
      taken_few middle (spent + level_of r.inode_file.layout r.inode_file.size) fresh (grows_twice old planned.start middle planned.grows grows)
      (omega (arith, tells (map_moves base v) counted, planned.takes, no_block, need, most, ap (top_nodes inodes) size)))

pub returns-in-Ok-clause-over : goal.returns-in-Ok-clause-over
returns-in-Ok-clause-over g c = λ d base v shows plannable.
    let at = (goal.at.returns-in-Ok-clause-over g c).In-Ok in
    let blocks = sym c.into_plan-map.ensures.plan in
    record {
      point = λ step is can. subst (λ (x : Planned). IsPointWith step c.args.root.now d (writes_of x.blocks) c.args.slot c.in-Ok.root v) blocks (point_here g at d base v shows plannable step is can);
      entries = λ e has agrees b. entries_here g at d base v shows plannable e (subst (λ (x : Planned). HasAll e x.blocks) c.into_plan-map.ensures.plan has) agrees b ∙ ap (λ (x : BlockMap). entry_at x.parts.items b) (sym c.into_plan-map.ensures.map);
      damaged = λ bad. no_error Damaged bad;
      leaves = λ fresh step is can spent most. subst (λ (x : Planned). LeavesFree spent c.args.root.now (blocks_of d) (writes_of x.blocks) c.in-Ok.root) blocks (leaves_here g at d base v shows plannable fresh step is can spent most);
      room = λ fresh step is none can spent most. subst (λ (x : Planned). LeavesFree spent c.args.root.now (blocks_of d) (writes_of x.blocks) c.in-Ok.root) blocks (room_here g at d base v shows plannable fresh step is none can spent most);
      needs = λ bad. no_error NoSpace bad;
    }

pub returns-in-Err-clause-over : goal.returns-in-Err-clause-over
returns-in-Err-clause-over g c = λ d base v shows plannable.
    let r = c.args.root.now in
    let change = c.args.change.now in
    let m = c.args.map in
    let s = c.args.inodes.now in
    let w = map_moves base v in
    let bases : TreesAreBases = record { steps = c.trees_are_bases.ensures.steps; sound = c.trees_are_bases.ensures.sound } in
    let over = over_first bases d change r c.args.slot c.args.generation m s base v plannable c.requires.fits g.B.Blocks c.args.blocks.now shows c.requires.sizes in
    record {
      point = λ step is can. tt;
      entries = tt;
      damaged = λ bad. c.in-Err.ensures.damaged over (start_is bases d change r c.args.slot c.args.generation m s base v plannable c.requires.fits g.B.Blocks c.args.blocks.now shows c.requires.sizes c.new-draft.result c.requires.clean c.new-draft.ensures.map) (search rules);
      leaves = λ fresh step is can spent most. tt;
      room = λ fresh step is none can spent most. tt;
      needs = λ bad.
          let short = c.in-Err.ensures.step.lacks over w (told bases change d r c.args.slot c.args.generation m s base v plannable c.requires.fits) (search rules) in
          let few : left m < point_stores w r s m.count + head_nodes change = omega (arith, short, ap left c.new-draft.ensures.map, ap (λ (x : BlockMap). point_stores w r s x.count) c.new-draft.ensures.map) in
          omega (arith, few, one_head change, fixed_needs r.inode_file.layout r.inode_file.size m.count (top_small r.inode_file.layout r c.requires.sizes.root_is), needed bases change d r c.args.slot c.args.generation m s base v plannable c.requires.fits c.requires.sizes.sizes c.requires.sizes.root_is);
    }

pub returns-in-Ok-clause-point : goal.returns-in-Ok-clause-point
returns-in-Ok-clause-point g c =
    let step = c.in-Ok.ensures.step in
    let plan = c.into_plan-map.ensures.plan in
    let count = step.grows.count ∙ ap (λ (x : BlockMap). x.count) c.new-draft.ensures.map ∙ c.requires.sizes.size in
    record {
      none = ap (λ (x : Planned). x.written) plan;
      slot_is = ap (λ (x : Planned). x.slot) plan;
      bytes = search rules;
      fits = λ sectors least most. c.into_plan-map.ensures.fits sectors least (omega (arith, most, count));
      root_is = step.root;
      generation_is = step.generation;
      geometry = step.geometry;
      version = step.version;
    }

pub returns-in-Ok-clause-map : goal.returns-in-Ok-clause-map
returns-in-Ok-clause-map g c =
    let grows = c.plan_root.ensures.step.grows in
    record {
      count = ap (λ (x : BlockMap). x.count) c.into_plan-map.ensures.map ∙ grows.count ∙ ap (λ (x : BlockMap). x.count) c.new-draft.ensures.map;
      settled = λ b. ap (λ (x : BlockMap). settled_at x.parts.items b) c.into_plan-map.ensures.map ∙ grows.settled.settled b ∙ ap (λ (x : BlockMap). settled_at x.parts.items b) c.new-draft.ensures.map;
    }

pub returns-in-Err-clause-map : goal.returns-in-Err-clause-map
returns-in-Err-clause-map g c =
    let grows = c.plan_root.ensures.step.grows in
    record {
      count = c.abandon.ensures.count ∙ grows.count ∙ ap (λ (x : BlockMap). x.count) c.new-draft.ensures.map;
      settled = λ b. c.abandon.ensures.settled b ∙ grows.settled.settled b ∙ ap (λ (x : BlockMap). settled_at x.parts.items b) c.new-draft.ensures.map;
    }

pub returns-in-Err-clause-given : goal.returns-in-Err-clause-given
returns-in-Err-clause-given g c = record { clean = λ b. c.abandon.ensures.entries b ∙ sym (c.abandon.ensures.settled b); next = c.abandon.ensures.next }

pub plan_root-requires-clause-start : goal.plan_root-requires-clause-start
plan_root-requires-clause-start g c =
    let are = c.requires.sizes in
    record { root_is = are.root_is; size = ap (λ (x : BlockMap). x.count) c.new-draft.ensures.map ∙ are.size; disk = are.disk; sizes = are.sizes }
