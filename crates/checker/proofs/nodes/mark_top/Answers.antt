use Rattle.std.proofs.Common.{◌≡◌, ◌∙◌}
use Rattle.layout.specs.declared.pointer.Pointer.TheVariants.{Hole}
use Rattle.checker.proofs.NodeSteps.{hole_marked, leaf_marked}
use Rattle.checker.proofs.nodes.mark_top.Goals as goal

pub returns-in_default-clause-marked : goal.returns-in_default-clause-marked
returns-in_default-clause-marked g c disk h shows at nodes =
    let hole : c.args.pointer ≡ Hole = c.in_default.is in
    hole_marked c.args.shape.layout (g.B.Blocks.count c.args.blocks.now) disk h c.args.node c.args.shape.count c.args.bits c.args.marks.now c.args.shared.now.of nodes (at ∙ hole)

pub returns-then-node-eq0-clause-marked : goal.returns-then-node-eq0-clause-marked
returns-then-node-eq0-clause-marked g c disk h shows at nodes =
    leaf_marked c.args.shape.layout (g.B.Blocks.count c.args.blocks.now) disk h c.args.node c.args.shape.count c.args.bits c.args.marks.now c.mark_block.new.marks c.args.shared.now.of c.mark_block.new.of
    c.if-node-eq0.true (c.mark_block.ensures.marked h (at ∙ c.in-Block.is))

pub returns-clause-marked : goal.returns-clause-marked
returns-clause-marked g c disk h shows at nodes = c.mark_node.ensures.marked disk h shows (at ∙ c.in-Block.is) nodes
