use Rattle.blocktree.proofs.StoredLaws.{hole_is_zeros}
use Rattle.blocktree.proofs.laws.holes_are_zeros.Goals as goal

pub returns : goal.returns
returns c = hole_is_zeros
