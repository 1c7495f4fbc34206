use Rattle.images.proofs.BehindLaws as laws
use Rattle.images.proofs.cut.needed_blocks_are_of_the_disk.Goals as goal

pub returns : goal.returns
returns c = λ d r b root sound. laws.needed_behind d r root sound b
