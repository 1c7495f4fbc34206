use Rattle.model.proofs.OneOutcomeLemmas.{has_one_outcome}
use Rattle.model.proofs.laws.commands_have_one_outcome.Goals as goal

pub returns : goal.returns
returns c = has_one_outcome
