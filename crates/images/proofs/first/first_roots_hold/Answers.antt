use Rattle.images.proofs.FirstLaws as laws
use Rattle.images.proofs.first.first_roots_hold.Goals as goal

pub returns : goal.returns
returns c = laws.first_holds
