use Rattle.model.proofs.FindingLemmas.{trails_tell_below}
use Rattle.model.proofs.laws.trails_tell_what_lies_below.Goals as goal

pub returns : goal.returns
returns c = trails_tell_below
