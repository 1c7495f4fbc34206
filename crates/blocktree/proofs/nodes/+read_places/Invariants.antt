use Rattle.blocktree.proofs.nodes.+read_places.Given as goal

abbrev pub decreases-read_places : goal.decreases-read_places
decreases-read_places g l = l.depth
