use Rattle.std.proofs.Math.Nat.{sub-zero}
use Rattle.blocktree.specs.Names.{nodes_at}
use Rattle.blocktree.proofs.tree.BlockTree.settled_places.Goals as goal

pub returns-clause-places : goal.returns-clause-places
unfolding nodes_at
returns-clause-places g c = λ disk shows. rw sub-zero at (c.settled_nodes.ensures.nodes disk shows)
