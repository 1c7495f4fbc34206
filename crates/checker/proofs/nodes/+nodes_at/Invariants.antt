use Rattle.checker.proofs.nodes.+nodes_at.Given as goal

abbrev pub decreases-nodes_at : goal.decreases-nodes_at
decreases-nodes_at l = l.height
