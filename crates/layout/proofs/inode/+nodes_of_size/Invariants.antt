use Rattle.layout.proofs.inode.+nodes_of_size.Given as goal

abbrev pub decreases-nodes_of_size : goal.decreases-nodes_of_size
decreases-nodes_of_size l = l.height
