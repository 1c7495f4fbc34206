use Rattle.std.proofs.Common.{◌≡◌, ℕ, ◌<◌, ◌≤◌, List, length, sym, subst, ◌∙◌, rules}
use Rattle.layout.specs.declared.inode.Inode.{Inode}
use Rattle.layout.specs.declared.pointer.Pointer.{Pointer}
use Rattle.conspoint.specs.Groups.{pointer_at}
use Rattle.conspoint.specs.MapFiles.{PlansMap}
use Rattle.images.specs.Nodes.{held}
use Rattle.images.specs.Soundness.{IsSoundFile}
use Rattle.planning.proofs.MapFileLaws.{map_file_planned, settled_map}
use Rattle.planning.specs.Steps.{OverTree}
use Rattle.planning.proofs.block_map.plan_block_map.Given.{Over}
use Rattle.planning.proofs.block_map.plan_block_map.Goals as goal
use Rattle.planning.proofs.block_map.plan_block_map.Goals.{In_ok-settled}
use Rattle.planning.proofs.PromiseLaws.{plans_after, plans_err, plans_ok, plans_read, plans_rise, plans_takes, plans_unread, read_of}
use Rattle.planning.specs.Space.{map_file_nodes}

-- the inode that was read is the settled one
module _ (g : Over) (c : In_ok-settled g) (o : OverTree g.B.Blocks c.args.blocks.now c.args.inodes.now) where
  now : c.in_ok-settled.settled ≡ o.settled 2
  now = c.in_ok-settled.ensures.read _ o.disk o.settled o.shows o.memory.inodes

  file : IsSoundFile c.args.inodes.now.geometry (held o.disk c.in_ok-settled.settled)
  file = subst (λ (f : Inode). IsSoundFile c.args.inodes.now.geometry (held o.disk f)) (sym now) (o.memory.inodes.sound 2)

pub returns-in_err-settled-clause-damaged : goal.returns-in_err-settled-clause-damaged
returns-in_err-settled-clause-damaged g c = λ o bad. c.in_err-settled.ensures.damaged _ o.disk o.settled o.shows (search rules) o.memory.inodes

pub returns-in_err-nodes-clause-damaged : goal.returns-in_err-nodes-clause-damaged
returns-in_err-nodes-clause-damaged g c = λ o bad.
    c.in_err-nodes.ensures.damaged c.args.inodes.now.geometry o.disk (c.settled_inode.ensures.reads.same o.disk o.shows) (file g (goal.at.returns-in_err-nodes-clause-damaged g c).In_ok-settled o)
    (o.memory.inodes.count ∙ sym c.settled_inode.ensures.reads.count) (search rules)

pub returns-clause-planned : goal.returns-clause-planned
returns-clause-planned g c = λ o start p fresh.
    let at = (goal.at.returns-clause-planned g c).In_ok-settled in
    let s = c.args.inodes.now.geometry in
    let old = c.args.draft.now in
    let new = c.store_own_map.new.draft in
    let nodes = c.in_ok-nodes.nodes.items in
    let found = c.in_ok-settled.settled in
    let f = c.in_ok-map.map in
    let shown = c.settled_inode.ensures.reads.same o.disk o.shows in
    map_file_planned old new o.disk o.before s o.settled p nodes f o.once o.exact start.same fresh c.store_own_map.ensures.step.grows
    (subst (λ (ns : List Pointer). PlansMap old new ns f) c.deref.ensures.value c.in_ok-map.ensures.planned)
    (settled_map (g.B.Blocks.count c.args.blocks.now) old o.disk s c.args.inodes.now.file o.settled o.before found nodes o.memory.inodes c.requires.sizes start.plain c.requires.disk o.once o.exact start.same start.entries
    start.sound.block_map (now g at o)
    (subst (λ n. (k : ℕ) → k < n → pointer_at nodes k ≡ (held o.disk found).place 0 k) c.map_blocks.ensures (c.in_ok-nodes.ensures.lowest s o.disk shown (file g at o)))
    (subst (λ n. 16 < n → pointer_at nodes n ≡ (held o.disk found).place 1 0) c.map_blocks.ensures (c.in_ok-nodes.ensures.over s o.disk shown (file g at o))))

pub returns-in_err-settled-clause-step : goal.returns-in_err-settled-clause-step
returns-in_err-settled-clause-step g c = plans_unread c.from_residual.result c.from_residual.ensures.1 c.in_err-settled.ensures.reads

pub returns-in_err-nodes-clause-step : goal.returns-in_err-nodes-clause-step
returns-in_err-nodes-clause-step g c =
    plans_after (read_of c.in_ok-settled.ensures.reads) (plans_err c.from_residual-in_err-nodes.result c.from_residual-in_err-nodes.ensures.1 (plans_read c.in_err-nodes.ensures.reads c.in_err-nodes.ensures.why))

pub returns-in_err-map-clause-step : goal.returns-in_err-map-clause-step
returns-in_err-map-clause-step g c =
    let few : length c.deref.result.now ≤ map_file_nodes c.args.draft.now.map.count = search rules in
    plans_after (read_of c.in_ok-settled.ensures.reads) (plans_after c.in_ok-nodes.ensures.reads (plans_err c.from_residual-in_err-map.result c.from_residual-in_err-map.ensures.1 (plans_rise (plans_takes c.in_err-map.ensures.step tt) few)))

pub returns-clause-step : goal.returns-clause-step
returns-clause-step g c =
    let few : length c.deref.result.now ≤ map_file_nodes c.args.draft.now.map.count = search rules in
    plans_after (read_of c.in_ok-settled.ensures.reads) (plans_after c.in_ok-nodes.ensures.reads (plans_ok (plans_rise (plans_takes c.in_ok-map.ensures.step c.in_ok-map.ensures.planned.others) few)))
