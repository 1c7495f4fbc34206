use Rattle.model.proofs.ExtendLemmas.{extends_on}
use Rattle.model.proofs.laws.replays_follow.Goals as goal

pub returns : goal.returns
returns c = extends_on
