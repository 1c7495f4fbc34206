use Rattle.layout.specs.Trees.{fan_out}
use Rattle.blocktree.proofs.FanLemmas.{wide_is}
use Rattle.blocktree.proofs.NodeLaws.{nodes_lowest, nodes_over}
use Rattle.blocktree.proofs.names.+nodes_at.Goals as goal

pub returns-then-height-eq0 : goal.returns-then-height-eq0
returns-then-height-eq0 t c = nodes_lowest c.args.layout c.args.count c.args.height c.if-height-eq0.true

pub returns : goal.returns
returns t c =
    nodes_over c.args.layout c.args.count c.args.height c.nodes_at.result c.div_ceil.result c.if-height-eq0.false c.nodes_at.ensures
    (wide_is c.nodes_at.result c.div_ceil.result c.fan_out.result (fan_out c.args.layout) c.div_ceil.ensures c.fan_out.ensures.value)
