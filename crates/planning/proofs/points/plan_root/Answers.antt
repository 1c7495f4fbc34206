use Rattle.std.proofs.Common.{ℕ, ap, sym, subst, ◌∙◌, rules, arith}
use Rattle.layout.specs.Inode.{IsInode}
use Rattle.layout.specs.Limits.{Sizes}
use Rattle.layout.specs.declared.inode.Inode.{Inode}
use Rattle.blockmap.specs.Maps.{entry_at, settled_at}
use Rattle.buffers.proofs.ReadLaws.{reads_ok}
use Rattle.conspoint.specs.Drafts.{Grows}
use Rattle.conspoint.proofs.DraftLemmas.{grows_twice}
use Rattle.conspoint.proofs.StepLemmas.{no_error}
use Rattle.conspoint.specs.declared.error.PlanError.TheVariants.{NoSpace}
use Rattle.planning.specs.Plans.{IsAllPlanned, IsPlanStart, IsRootStart}
use Rattle.planning.specs.Space.{point_stores}
use Rattle.planning.specs.Steps.{OverTree, found_in, tree_of}
use Rattle.planning.proofs.ChangeLaws.{head_of, heads_of, sets_of, slots_of}
use Rattle.planning.proofs.PlanLaws.{start_later}
use Rattle.planning.proofs.PromiseLaws.{damaged_fits, damaged_unread, read_damaged, root_stops, shortage_reads}
use Rattle.planning.proofs.StartLaws.{WritesAll, start_fits, start_kind, top_fits, top_kind}
use Rattle.planning.proofs.points.plan_root.Given.{Over}
use Rattle.planning.proofs.points.plan_root.Goals as goal
use Rattle.planning.proofs.points.plan_root.Goals.{After-plan_files, In_ok-top}

-- where the files start, once the snapshots are changed
files_start : (g : Over) (c : In_ok-top g) (o : OverTree g.B.Blocks c.args.blocks.now c.args.inodes.now) → IsRootStart o c.args.change.now c.args.draft.now c.args.root.now → IsPlanStart o c.change_snapshots.new.draft c.in_ok-top.top
files_start g c o start =
    start_later c.args.change.now c.args.draft.now c.change_snapshots.new.draft c.args.root.now c.in_ok-top.top start c.in_ok-top.ensures.is c.change_snapshots.ensures.step.grows c.in_ok-slots.ensures.active c.in_ok-slots.ensures.touched

both_grow : (g : Over) (c : After-plan_files g) → Grows c.args.draft.now c.plan_files.new.draft
both_grow g c = grows_twice c.args.draft.now c.change_snapshots.new.draft c.plan_files.new.draft c.change_snapshots.ensures.step.grows c.plan_files.ensures.step.grows

pub returns-clause-planned : goal.returns-clause-planned
returns-clause-planned g c = λ o start. record {
  start = c.change_snapshots.new.draft;
  grows = c.change_snapshots.ensures.step.grows;
  takes = c.in_ok-slots.ensures.step.takes;
  touched = c.in_ok-slots.ensures.touched;
  heads = heads_of c.args.root.now c.in_ok-slots.slots c.in_ok-next.next c.change_snapshots.new.draft c.in_ok-next.ensures.snapshots c.in_ok-slots.ensures.changed.heads;
  all = subst (λ (f : Inode). IsAllPlanned c.change_snapshots.new.draft c.plan_files.new.draft o.disk o.before c.args.inodes.now.geometry (tree_of o) (found_in o) c.args.inodes.now f) (sym c.in_ok-next.ensures.inode_file)
      (c.in_ok-inode_file.ensures.planned o (files_start g (goal.at.returns-clause-planned g c).In_ok-top o start));
}

pub returns-in_err-top-clause-damaged : goal.returns-in_err-top-clause-damaged
returns-in_err-top-clause-damaged g c = λ o start bad. c.in_err-top.ensures.damaged (search rules) (start_kind start) (start_fits start c.requires.start.sizes)

pub returns-in_err-inode_file-clause-damaged : goal.returns-in_err-inode_file-clause-damaged
returns-in_err-inode_file-clause-damaged g c = λ o start bad.
    c.in_err-inode_file.ensures.damaged o (files_start g (goal.at.returns-in_err-inode_file-clause-damaged g c).In_ok-top o start) (search rules)

pub returns-in_err-next-clause-damaged : goal.returns-in_err-next-clause-damaged
returns-in_err-next-clause-damaged g c = λ o start bad.
    let inodes = c.args.inodes.now in
    let d = c.plan_files.new.draft in
    let now = files_start g (goal.at.returns-in_err-next-clause-damaged g c).In_ok-top o start in
    let all = c.in_ok-inode_file.ensures.planned o now in
    let writes : WritesAll = record { has = c.written_disks_have_the_blocks.ensures.has; others = c.written_disks_have_the_blocks.ensures.others } in
    let same = λ (b : ℕ). c.plan_files.ensures.step.grows.settled.settled b ∙ now.map.same b in
    c.in_err-next.ensures.damaged (search rules) c.in_ok-slots.ensures.changed.root
    (top_kind writes d o.disk o.before inodes.geometry (tree_of o) (found_in o) inodes c.in_ok-inode_file.inode_file all o.exact same)
    (subst (λ (z : Sizes). IsInode z c.in_ok-inode_file.inode_file) (c.requires.start.sizes ∙ sym c.in_ok-slots.ensures.changed.geometry)
    (top_fits writes d o.disk o.before inodes.geometry (tree_of o) (found_in o) inodes c.in_ok-inode_file.inode_file all o.exact same))

pub returns-in_err-slots-clause-step : goal.returns-in_err-slots-clause-step
returns-in_err-slots-clause-step g c =
    root_stops c.from_residual.result c.from_residual.ensures.1 (shortage_reads c.in_err-slots.ensures.step.shortage) c.change_snapshots.ensures.step.grows
    (λ o w counts bad. omega (arith, c.in_err-slots.ensures.step.lacks (search rules)))

pub returns-in_err-top-clause-step : goal.returns-in_err-top-clause-step
returns-in_err-top-clause-step g c =
    root_stops c.from_residual-in_err-top.result c.from_residual-in_err-top.ensures.1 (damaged_unread c.in_err-top.ensures.why) c.change_snapshots.ensures.step.grows (λ o w counts bad. damaged_fits c.in_err-top.ensures.why bad)

pub returns-in_err-inode_file-clause-step : goal.returns-in_err-inode_file-clause-step
returns-in_err-inode_file-clause-step g c =
    root_stops c.from_residual-in_err-inode_file.result c.from_residual-in_err-inode_file.ensures.1 c.in_err-inode_file.ensures.step.reads (both_grow g (goal.at.returns-in_err-inode_file-clause-step g c).After-plan_files)
    (λ o w counts bad.
    let count = ap (λ n. point_stores w c.args.root.now c.args.inodes.now n) c.change_snapshots.ensures.step.grows.count in
    let short = c.in_err-inode_file.ensures.step.lacks o w counts bad in omega (arith, c.in_ok-slots.ensures.step.takes, short, count))

pub returns-in_err-next-clause-step : goal.returns-in_err-next-clause-step
returns-in_err-next-clause-step g c =
    root_stops c.from_residual-in_err-next.result c.from_residual-in_err-next.ensures.1 (read_damaged c.in_err-next.ensures.why c.in_ok-inode_file.ensures.step.reads)
    (both_grow g (goal.at.returns-in_err-next-clause-step g c).After-plan_files) (λ o w counts bad. damaged_fits c.in_err-next.ensures.why bad)

pub returns-clause-step : goal.returns-clause-step
returns-clause-step g c =
    record {
      reads = reads_ok c.in_ok-inode_file.ensures.step.reads;
      grows = both_grow g (goal.at.returns-clause-step g c).After-plan_files;
      takes = λ o w counts.
          let count = ap (λ n. point_stores w c.args.root.now c.args.inodes.now n) c.change_snapshots.ensures.step.grows.count in
          let stores = c.in_ok-inode_file.ensures.step.takes o w counts in omega (arith, c.in_ok-slots.ensures.step.takes, stores, count);
      lacks = λ o w counts bad. no_error NoSpace bad;
      root = c.in_ok-next.ensures.root;
      generation = c.in_ok-next.ensures.generation;
      geometry = c.in_ok-next.ensures.geometry ∙ c.in_ok-slots.ensures.changed.geometry;
      version = c.in_ok-next.ensures.version;
    }

pub returns-clause-steps : goal.returns-clause-steps
returns-clause-steps g c = λ step is.
    let made = c.in_ok-slots.ensures.changed.steps step is in
    record {
      slots = slots_of step c.args.root.now c.in_ok-slots.slots c.in_ok-next.next c.in_ok-next.ensures.snapshots made.slots;
      head = λ e has. head_of step c.in_ok-slots.slots c.in_ok-next.next e c.in_ok-next.ensures.snapshots (made.head e (c.plan_files.ensures.step.grows.has e has));
    }

pub returns-clause-sets : goal.returns-clause-sets
returns-clause-sets g c = λ step is. record {
  between = entry_at c.change_snapshots.new.draft.map.parts.items;
  sets = sets_of step c.args.root.now c.in_ok-slots.slots c.in_ok-next.next (settled_at c.args.draft.now.map.parts.items)
      (entry_at c.args.draft.now.map.parts.items) (entry_at c.change_snapshots.new.draft.map.parts.items) c.in_ok-next.ensures.snapshots (c.in_ok-slots.ensures.changed.sets step is);
  keeps = c.in_ok-inode_file.ensures.step.sets;
}

pub plan_files-requires-clause-start : goal.plan_files-requires-clause-start
plan_files-requires-clause-start g c = record {
  root_is = c.requires.start.root_is;
  size = c.change_snapshots.ensures.step.grows.count ∙ c.requires.start.size;
  disk = c.requires.start.disk;
  sizes = c.requires.start.sizes;
}
