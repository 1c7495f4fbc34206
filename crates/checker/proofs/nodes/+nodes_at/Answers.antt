use Rattle.std.proofs.Common.{ℕ, ap, ◌∙◌}
use Rattle.std.specs.Int.{div_ceil}
use Rattle.blocktree.proofs.NodeLaws.{nodes_lowest, nodes_over}
use Rattle.checker.proofs.nodes.+nodes_at.Goals as goal

pub returns-then-height-eq0 : goal.returns-then-height-eq0
returns-then-height-eq0 t c = nodes_lowest c.args.shape.layout c.args.shape.count c.args.height c.if-height-eq0.true

pub returns : goal.returns
returns t c =
    nodes_over c.args.shape.layout c.args.shape.count c.args.height c.nodes_at.result c.div_ceil.result c.if-height-eq0.false c.nodes_at.ensures
    (c.div_ceil.ensures ∙ ap (λ (n : ℕ). div_ceil c.nodes_at.result n) c.fan_out.ensures.value)
