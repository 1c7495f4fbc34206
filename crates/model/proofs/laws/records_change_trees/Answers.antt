use Rattle.model.proofs.RecordLemmas.{records_change_trees}
use Rattle.model.proofs.laws.records_change_trees.Goals as goal

pub returns : goal.returns
returns c = records_change_trees
