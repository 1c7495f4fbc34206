use Rattle.images.proofs.FreeLaws as laws
use Rattle.images.proofs.states.free_blocks_are_no_matter.Goals as goal

pub returns : goal.returns
returns c = laws.open_alike
