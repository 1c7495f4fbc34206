use Rattle.model.proofs.NumberLemmas.{volumes_tell_numbers}
use Rattle.model.proofs.laws.volumes_tell_numbers.Goals as goal

pub returns : goal.returns
returns c = volumes_tell_numbers
