use Rattle.model.proofs.MarkLemmas.{records_keep_volumes}
use Rattle.model.proofs.laws.records_keep_volumes.Goals as goal

pub returns : goal.returns
returns c = records_keep_volumes
