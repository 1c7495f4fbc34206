use Rattle.model.proofs.MountLemmas.{mounts_find}
use Rattle.model.proofs.laws.mounts_find_volumes.Goals as goal

pub returns : goal.returns
returns c = mounts_find
