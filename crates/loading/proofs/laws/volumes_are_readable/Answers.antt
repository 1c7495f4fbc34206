use Rattle.loading.proofs.ReadyLaws.{readable}
use Rattle.loading.proofs.laws.volumes_are_readable.Goals as goal

pub returns : goal.returns
returns c = readable
