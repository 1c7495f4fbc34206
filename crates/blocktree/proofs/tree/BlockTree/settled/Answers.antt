use Rattle.blocktree.proofs.FanLemmas.{size_fits}
use Rattle.blocktree.proofs.tree.BlockTree.settled.Goals as goal

pub block_count-count-requires : goal.block_count-count-requires
block_count-count-requires c = size_fits c.args.layout c.args.size c.requires
