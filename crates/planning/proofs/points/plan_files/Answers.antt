use Rattle.std.proofs.Common.{◌≡◌, ℕ, ◌+◌, ◌*◌, ◌/◌, ◌%◌, ◌≤◌, refl, ap, sym, subst, ◌∙◌, rules, arith}
use Rattle.std.specs.Int.{div_ceil}
use Rattle.layout.specs.Inode.{inode_bytes}
use Rattle.layout.specs.Limits.{AreSizes}
use Rattle.layout.specs.declared.inode.Inode.{Inode}
use Rattle.layout.specs.declared.kind.Kind.TheVariants as kinds
use Rattle.blocktree.specs.Trees.{IsSoundAt}
use Rattle.images.specs.InodeFiles.{spliced_at}
use Rattle.images.proofs.EmptyLaws.{held_inode}
use Rattle.inode.specs.Files.{file_block}
use Rattle.inode.specs.declared.object.Status.{Status}
use Rattle.placement.specs.Files.{IsChangeOf}
use Rattle.placement.specs.Space.{first_stores}
use Rattle.planning.specs.Plans.{IsPlanStart, PlansNumbers}
use Rattle.planning.specs.Progress.{with_planned_file}
use Rattle.planning.specs.Space.{map_file_nodes, top_nodes}
use Rattle.planning.specs.Steps.{OverTree, found_in, tree_of}
use Rattle.planning.proofs.BaseLaws.{entries_later}
use Rattle.planning.proofs.OwnLaws.{own_change}
use Rattle.planning.proofs.PromiseLaws.{parts_err, parts_of, parts_rise, parts_same, parts_then, plans_err, plans_ok, plans_out, plans_rise}
use Rattle.planning.proofs.SettledLaws.{over_read}
use Rattle.planning.proofs.StartLaws.{not_own, spelled_ends, started, top_size, top_sound}
use Rattle.planning.proofs.TopLaws.{top_few}
use Rattle.planning.proofs.WholeLaws.{all_planned}
use Rattle.planning.proofs.points.plan_files.Given.{Over}
use Rattle.planning.proofs.points.plan_files.Goals as goal
use Rattle.planning.proofs.points.plan_files.Goals.{After-place_top, After-plan_changes, In_ok-plan_changes}

-- what the inode file is when the numbers are planned
top_change : (g : Over) (c : In_ok-plan_changes g) (o : OverTree g.B.Blocks c.args.blocks.now c.args.inodes.now) → IsPlanStart o c.args.draft.now c.args.inode_file
    → PlansNumbers c.args.draft.now.map.next c.plan_changes.new.draft o.disk o.settled o.before c.args.inodes.now c.plan_changes.new.file
    → IsChangeOf c.args.inodes.now.geometry c.plan_changes.new.draft o.disk (o.settled 0) (record c.in_ok-top.top { file = c.plan_changes.new.file })
top_change g c o start numbers =
    let s = c.args.inodes.now.geometry in
    let root = c.args.root.now in
    let top = record c.in_ok-top.top { file = c.plan_changes.new.file } in
    let grows = c.plan_changes.ensures.step.grows in
    let size : top.file.size ≡ root.inode_file.size = c.plan_changes.ensures.file.size ∙ c.in_ok-top.ensures.size ∙ c.requires.size in
    own_change (g.B.Blocks.count c.args.blocks.now) c.plan_changes.new.draft o.disk s c.args.inodes.now.file o.settled o.before 0 c.args.inode_file c.in_ok-top.top.file.tree top o.memory.inodes o.once o.exact
    (λ b. grows.settled.settled b ∙ start.map.same b) (c.requires.start.disk ∙ sym c.requires.start.size ∙ sym grows.count) (sym start.top) c.in_ok-top.ensures.settled c.plan_changes.ensures.file.settled
    c.in_ok-top.ensures.status (c.plan_changes.ensures.file.size ∙ c.in_ok-top.ensures.size)
    (spelled_ends s.inodes top.file.size (file_block o.disk top.file) numbers.map.way.plan.inode numbers.map.way.spelled (size ∙ top_size s root c.requires.start.root_is c.requires.start.sizes))

-- and how many of its blocks are stored
top_within : (g : Over) (c : After-plan_changes g) → first_stores c.plan_changes.new.file ≤ top_nodes c.args.inodes.now c.args.root.now.inode_file.size
top_within g c = top_few c.args.inodes.now c.args.root.now c.args.inode_file c.in_ok-top.top.file c.plan_changes.new.file c.requires.start.root_is c.requires.start.sizes c.requires.size c.requires.fits c.in_ok-top.ensures.settled c.in_ok-top.ensures.unchanged
    c.in_ok-top.ensures.size c.plan_changes.ensures.file.size c.plan_changes.ensures.file.settled c.plan_changes.ensures.file.changes

-- the block map's own blocks are as many as before
map_within : (g : Over) (c : After-place_top g) → map_file_nodes c.place_top.new.draft.map.count ≡ map_file_nodes c.args.draft.now.map.count
map_within g c = ap map_file_nodes (c.place_top.ensures.step.grows.count ∙ c.plan_changes.ensures.step.grows.count)

pub returns-in_err-plan_changes-clause-damaged : goal.returns-in_err-plan_changes-clause-damaged
returns-in_err-plan_changes-clause-damaged g c = λ o start bad.
    let tree = c.in_ok-top.top.file.tree in
    let sound = top_sound start in
    c.in_err-plan_changes.ensures.damaged o start.map.same
    (λ i. subst (λ n. IsSoundAt n o.disk tree i) o.memory.inodes.count (c.based_trees_are_sound.ensures.at _ c.args.inodes.now.geometry o.disk c.args.inode_file tree i sound sound.bytes.readable c.in_ok-top.ensures.base))
    (search rules)

pub returns-in_err-placed-clause-damaged : goal.returns-in_err-placed-clause-damaged
returns-in_err-placed-clause-damaged g c = λ o start bad.
    let s = c.args.inodes.now.geometry in
    let begin = started start c.in_ok-top.top.file (c.in_ok-top.ensures.held _ s o.disk (top_sound start)) in
    let numbers = c.in_ok-plan_changes.ensures.planned o start.map.sound.inode_map c.args.draft.now.map.next begin in
    c.in_err-placed.ensures.damaged s o.disk (o.settled 0) (c.plan_changes.ensures.step.reads.same o.disk o.shows)
    (top_change g (goal.at.returns-in_err-placed-clause-damaged g c).In_ok-plan_changes o start numbers) (search rules)

pub returns-in_err-plan_last-clause-damaged : goal.returns-in_err-plan_last-clause-damaged
returns-in_err-plan_last-clause-damaged g c = λ o start bad.
    let tree = c.in_ok-top.top.file.tree in
    let sound = top_sound start in
    let count : g.B.Blocks.count c.args.blocks.now ≡ g.B.Blocks.count c.place_top.new.blocks = sym c.plan_changes.ensures.step.reads.count ∙ sym c.place_top.ensures.step.reads.count in
    c.in_err-plan_last.ensures.damaged (over_read c.place_top.ensures.step.reads (over_read c.plan_changes.ensures.step.reads o))
    (subst (λ n. IsSoundAt n o.disk c.plan_changes.new.file.tree 0) count (c.plan_changes.ensures.file.sound (g.B.Blocks.count c.args.blocks.now) o.disk 0
    (subst (λ n. IsSoundAt n o.disk tree 0) o.memory.inodes.count (c.based_trees_are_sound.ensures.at _ c.args.inodes.now.geometry o.disk c.args.inode_file tree 0 sound sound.bytes.readable c.in_ok-top.ensures.base))))
    (search rules)

pub returns-clause-planned : goal.returns-clause-planned
returns-clause-planned g c = λ o start.
    let s = c.args.inodes.now.geometry in
    let root = c.args.root.now in
    let begin = started start c.in_ok-top.top.file (c.in_ok-top.ensures.held _ s o.disk (top_sound start)) in
    let memory = record c.in_ok-top.top { file = c.plan_changes.new.file } in
    let numbers = c.in_ok-plan_changes.ensures.planned o start.map.sound.inode_map c.args.draft.now.map.next begin in
    let p = numbers.map.way.plan in
    let first_grows = c.plan_changes.ensures.step.grows in
    let next_grows = c.place_top.ensures.step.grows in
    let same_now = λ (b : ℕ). first_grows.settled.settled b ∙ start.map.same b in
    let large : memory.file.size ≡ 4096 * div_ceil s.inodes 21 = c.plan_changes.ensures.file.size ∙ c.in_ok-top.ensures.size ∙ c.requires.size ∙ top_size s root c.requires.start.root_is c.requires.start.sizes in
    let change = top_change g (goal.at.returns-clause-planned g c).In_ok-plan_changes o start numbers in
    let later = over_read c.plan_changes.ensures.step.reads o in
    let kind : memory.status.kind ≡ kinds.InodeFile = ap (λ (a : Status). a.kind) c.in_ok-top.ensures.status ∙ ap (λ (i : Inode). i.kind) (sym start.top) ∙ o.memory.inodes.fits 0 in
    let fresh = numbers.map.others 0 (λ is. absurd (omega arith)) ∙ not_own c.args.inodes.now numbers.changed numbers.just c.args.inodes.now.changes 0 (omega arith) in
    let fresh_map = numbers.map.others 2 (λ is. absurd (omega arith)) ∙ not_own c.args.inodes.now numbers.changed numbers.just c.args.inodes.now.changes 2 (omega arith) in
    let f = c.in_ok-placed.placed.0 in
    let first = c.in_ok-placed.placed.1 in
    let top = c.in_ok-placed.ensures.planned c.args.inodes.now later change kind same_now p fresh numbers.map.way.progress in
    let last = c.in_ok-plan_last.ensures.planned (over_read c.place_top.ensures.step.reads later) (record {
      plain = start.map.plain;
      sound = start.map.sound;
      same = λ b. next_grows.settled.settled b ∙ same_now b;
      entries = entries_later c.plan_changes.new.draft c.place_top.new.draft o.before.entry (tree_of o) next_grows (entries_later c.args.draft.now c.plan_changes.new.draft o.before.entry (tree_of o) first_grows start.map.entries);
    }) (with_planned_file 0 f top.taken p) fresh_map in
    let said = c.inodes_are_put_one_by_one.ensures in
    let least : AreSizes s = subst AreSizes (sym c.requires.start.sizes) c.requires.start.root_is.head.sizes in
    let most = top_within g (goal.at.returns-clause-planned g c).After-plan_changes in
    let old_size : (tree_of o 0).inode.size ≡ root.inode_file.size = ap (λ (i : Inode). i.size) (held_inode o.disk (o.settled 0) ∙ start.top) ∙ c.requires.size in
    all_planned (record { there = said.there; others = said.others; behind = said.behind }) c.args.draft.now c.plan_changes.new.draft c.place_top.new.draft c.plan_last.new.draft o.disk o.before s (tree_of o)
    (found_in o) c.args.inodes.now memory f last.map first (spliced_at (192 * (2 % 21)) (inode_bytes last.map) (file_block o.disk memory.file (2 / 21))) numbers.changed numbers.just
    (λ n is. (c.args.inodes.now.changes n is).1) (omega (arith, least.least_inodes)) numbers.map top last.planned large first_grows next_grows c.plan_last.ensures.step.grows
    (λ w counts. let stores = c.in_ok-plan_changes.ensures.step.takes o w counts in omega (arith, stores, c.in_ok-placed.ensures.step.takes, most, ap (top_nodes c.args.inodes.now) old_size)) last.put refl last.whole last.long

pub returns-in_err-top-clause-step : goal.returns-in_err-top-clause-step
returns-in_err-top-clause-step g c = parts_of {n = 0} (plans_out c.from_residual.result c.from_residual.ensures.1) (λ o w counts. omega arith)

pub returns-in_err-plan_changes-clause-step : goal.returns-in_err-plan_changes-clause-step
returns-in_err-plan_changes-clause-step g c =
    parts_rise (parts_err c.from_residual-in_err-plan_changes.result c.from_residual-in_err-plan_changes.ensures.1 c.in_err-plan_changes.ensures.step) (λ w. omega arith)

pub returns-in_err-placed-clause-step : goal.returns-in_err-placed-clause-step
returns-in_err-placed-clause-step g c =
    let most = top_within g (goal.at.returns-in_err-placed-clause-step g c).After-plan_changes in
    parts_then c.in_ok-plan_changes.ensures.step (parts_same (plans_rise (plans_err c.from_residual-in_err-placed.result c.from_residual-in_err-placed.ensures.1 c.in_err-placed.ensures.step) most)) (λ w. omega arith)

pub returns-in_err-plan_last-clause-step : goal.returns-in_err-plan_last-clause-step
returns-in_err-plan_last-clause-step g c =
    let most = top_within g (goal.at.returns-in_err-plan_last-clause-step g c).After-plan_changes in
    let map = map_within g (goal.at.returns-in_err-plan_last-clause-step g c).After-place_top in
    parts_then c.in_ok-plan_changes.ensures.step
    (parts_then {k = λ w. top_nodes c.args.inodes.now c.args.root.now.inode_file.size + map_file_nodes c.args.draft.now.map.count}
    (parts_same (plans_rise c.in_ok-placed.ensures.step most)) (parts_same (plans_err c.from_residual-in_err-plan_last.result c.from_residual-in_err-plan_last.ensures.1 c.in_err-plan_last.ensures.step))
    (λ w. omega (arith, map))) (λ w. omega arith)

pub returns-clause-step : goal.returns-clause-step
returns-clause-step g c =
    let most = top_within g (goal.at.returns-clause-step g c).After-plan_changes in
    let map = map_within g (goal.at.returns-clause-step g c).After-place_top in
    parts_then c.in_ok-plan_changes.ensures.step
    (parts_then {k = λ w. top_nodes c.args.inodes.now c.args.root.now.inode_file.size + map_file_nodes c.args.draft.now.map.count}
    (parts_same (plans_rise c.in_ok-placed.ensures.step most)) (parts_same (plans_ok c.in_ok-plan_last.ensures.step)) (λ w. omega (arith, map))) (λ w. omega arith)
