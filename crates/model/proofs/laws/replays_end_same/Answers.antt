use Rattle.model.proofs.ExtendLemmas.{ends_same}
use Rattle.model.proofs.laws.replays_end_same.Goals as goal

pub returns : goal.returns
returns c = ends_same
