use Rattle.model.proofs.ExtendLemmas.{costs_the_same}
use Rattle.model.proofs.laws.replays_cost_the_same.Goals as goal

pub returns : goal.returns
returns c = costs_the_same
