use Rattle.std.proofs.Common.{rules, arith, ◌≡◌, Contains}
use Rattle.layout.specs.Trees.{fan_out}
use Rattle.blocktree.proofs.FanLemmas.{wide_is}
use Rattle.blocktree.proofs.NameLaws.{named_last, named_more, paths_above}
use Rattle.blocktree.proofs.names.+name_nodes.Goals as goal

pub returns-in_err-name_nodes-clause-damaged : goal.returns-in_err-name_nodes-clause-damaged
returns-in_err-name_nodes-clause-damaged g t c = λ disk shows bad paths.
    c.in_err-name_nodes.ensures.damaged disk (c.in_ok-name_level.ensures.reads.same disk shows) (search rules)
    (paths_above c.args.layout (g.B.Blocks.count c.args.blocks.now) (g.B.Blocks.count c.name_level.new.blocks) c.div_ceil.result disk c.args.pointers.now c.args.depth c.args.count c.in_ok-name_level.ensures.reads.count (wide_is c.args.count c.div_ceil.result c.fan_out.result (fan_out c.args.layout) c.div_ceil.ensures c.fan_out.ensures.value) c.if-depth-gt0.true paths)

pub returns-in_ok-name_nodes-clause-named : goal.returns-in_ok-name_nodes-clause-named
returns-in_ok-name_nodes-clause-named g t c = λ disk shows p.
    named_more c.args.layout disk c.args.pointers.now c.args.depth c.args.count c.div_ceil.result p (Contains c.args.names.now.items p) (Contains c.name_level.new.names.items p) (Contains c.name_nodes.new.names.items p) c.if-depth-gt0.true (wide_is c.args.count c.div_ceil.result c.fan_out.result (fan_out c.args.layout) c.div_ceil.ensures c.fan_out.ensures.value)
    (c.in_ok-name_level.ensures.named disk shows p) (c.in_ok-name_nodes.ensures.named disk (c.in_ok-name_level.ensures.reads.same disk shows) p)

pub returns-else-depth-gt0-clause-named : goal.returns-else-depth-gt0-clause-named
returns-else-depth-gt0-clause-named g t c = λ disk shows p.
    let none : c.args.depth ≡ 0 = omega arith in
    named_last c.args.layout disk c.args.pointers.now c.args.depth c.args.count p (Contains c.args.names.now.items p) (Contains c.name_level.new.names.items p) none (c.in_ok-name_level.ensures.named disk shows p)
