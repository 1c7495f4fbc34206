use Rattle.model.proofs.FreshLemmas.{volumes_tell_used}
use Rattle.model.proofs.laws.volumes_tell_used_numbers.Goals as goal

pub returns : goal.returns
returns c = volumes_tell_used
