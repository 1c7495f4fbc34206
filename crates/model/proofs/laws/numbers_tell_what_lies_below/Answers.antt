use Rattle.model.proofs.FindingLemmas.{below_is_by_paths}
use Rattle.model.proofs.laws.numbers_tell_what_lies_below.Goals as goal

pub returns : goal.returns
returns c = below_is_by_paths
