use Rattle.checker.proofs.NodeSteps.{again_told, looks_at}
use Rattle.checker.proofs.nodes.mark_block.Goals as goal

pub returns-clause-marked : goal.returns-clause-marked
returns-clause-marked c h is =
    looks_at c.args.marks.now c.mark-before.new.self c.args.of.now c.add_shared.new.of c.args.place c.args.bits c.mark-before.result (record { block = c.get-block.result; second = c.args.node })
    c.mark-before.ensures.before c.mark-before.ensures.here c.mark-before.ensures.others c.add_shared.ensures.kept c.add_shared.ensures.these c.add_shared.ensures.others c.requires.planes h is c.get-block.ensures

pub returns-clause-again : goal.returns-clause-again
returns-clause-again c =
    again_told c.args.marks.now c.mark-before.new.self c.args.of.now c.add_shared.new.of c.args.place c.args.bits c.mark-before.result (record { block = c.get-block.result; second = c.args.node })
    c.mark-before.ensures.before c.mark-before.ensures.here c.mark-before.ensures.others c.add_shared.ensures.kept c.add_shared.ensures.these c.add_shared.ensures.others c.requires.planes
