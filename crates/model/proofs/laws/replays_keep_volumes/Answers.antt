use Rattle.model.proofs.MountLemmas.{replays_keep_volumes}
use Rattle.model.proofs.laws.replays_keep_volumes.Goals as goal

pub returns : goal.returns
returns c = replays_keep_volumes
