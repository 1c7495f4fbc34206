use Rattle.model.proofs.FreshLemmas.{volumes_tell_fresh}
use Rattle.model.proofs.laws.volumes_tell_fresh_numbers.Goals as goal

pub returns : goal.returns
returns c = volumes_tell_fresh
