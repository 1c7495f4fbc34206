use Rattle.model.proofs.RecordLemmas.{volumes_are_trees}
use Rattle.model.proofs.laws.volumes_are_trees.Goals as goal

pub returns : goal.returns
returns c = volumes_are_trees
