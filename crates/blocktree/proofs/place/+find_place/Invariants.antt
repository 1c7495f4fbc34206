use Rattle.blocktree.proofs.place.+find_place.Given as goal

abbrev pub decreases-find_place : goal.decreases-find_place
decreases-find_place g l = l.depth
