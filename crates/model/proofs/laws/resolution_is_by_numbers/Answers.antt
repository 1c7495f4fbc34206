use Rattle.model.proofs.FindingLemmas.{resolves_by_numbers}
use Rattle.model.proofs.laws.resolution_is_by_numbers.Goals as goal

pub returns : goal.returns
returns c = resolves_by_numbers
