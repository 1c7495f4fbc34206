use Rattle.images.proofs.PointLaws as laws
use Rattle.images.proofs.point.free_blocks_are_unneeded.Goals as goal

pub returns : goal.returns
returns c = laws.free_is_free
