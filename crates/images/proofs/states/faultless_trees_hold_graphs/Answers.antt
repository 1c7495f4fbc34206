use Rattle.images.proofs.FaultLaws.{tree_volume}
use Rattle.images.proofs.SizeLaws.{sized_holds}
use Rattle.images.proofs.states.faultless_trees_hold_graphs.Goals as goal

pub returns-clause-holds : goal.returns-clause-holds
returns-clause-holds c = sized_holds

pub returns-clause-graph : goal.returns-clause-graph
returns-clause-graph c = λ d r v is active holds. (tree_volume d r v is active holds).0

pub returns-clause-numbers : goal.returns-clause-numbers
returns-clause-numbers c = λ d r v is active holds. (tree_volume d r v is active holds).1
