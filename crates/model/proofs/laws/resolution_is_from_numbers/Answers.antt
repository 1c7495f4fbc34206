use Rattle.model.proofs.FindingLemmas.{resolves_from_numbers}
use Rattle.model.proofs.laws.resolution_is_from_numbers.Goals as goal

pub returns : goal.returns
returns c = resolves_from_numbers
