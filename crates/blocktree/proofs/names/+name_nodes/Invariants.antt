use Rattle.blocktree.proofs.names.+name_nodes.Given as goal

abbrev pub decreases-name_nodes : goal.decreases-name_nodes
decreases-name_nodes g l = l.depth
