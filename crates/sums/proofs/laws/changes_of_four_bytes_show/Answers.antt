use Rattle.sums.proofs.ChangeLaws.{sum_tells}
use Rattle.sums.proofs.laws.changes_of_four_bytes_show.Goals as goal

pub returns : goal.returns
returns c = λ front old new back are_old are_new long few other same. other (sum_tells front old new back are_old are_new long few same)
