use Rattle.std.proofs.Common.{ap, ◌∙◌}
use Rattle.std.specs.Int.{div_ceil}
use Rattle.layout.proofs.NodeLaws.{nodes_lowest, nodes_over}
use Rattle.layout.proofs.inode.+nodes_of_size.Goals as goal

pub returns-then-height-eq0 : goal.returns-then-height-eq0
returns-then-height-eq0 t c = nodes_lowest c.args.layout c.args.size c.args.height c.div_ceil.result c.if-height-eq0.true c.div_ceil.ensures

pub returns : goal.returns
returns t c = nodes_over c.args.layout c.args.size c.args.height c.nodes_of_size.result c.div_ceil-2.result c.if-height-eq0.false c.nodes_of_size.ensures (c.div_ceil-2.ensures ∙ ap (div_ceil c.nodes_of_size.result) (c.from.ensures ∙ c.fan_out.ensures.value))
