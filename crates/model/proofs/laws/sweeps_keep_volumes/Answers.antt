use Rattle.model.proofs.MoveLemmas.{sweeps_keep_volumes}
use Rattle.model.proofs.laws.sweeps_keep_volumes.Goals as goal

pub returns : goal.returns
returns c = sweeps_keep_volumes
