use Rattle.std.proofs.Common.{arith, ◌∙◌}
use Rattle.blocktree.proofs.SlotLaws.{settled_past}
use Rattle.blocktree.proofs.tree.BlockTree.empty.Goals as goal

pub returns-clause-blocks : goal.returns-clause-blocks
returns-clause-blocks c = λ disk i. c.settled.ensures.blocks disk i ∙ settled_past _ disk _ _ _ i (omega arith)
