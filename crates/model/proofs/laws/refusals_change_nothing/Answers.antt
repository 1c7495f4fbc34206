use Rattle.model.proofs.OwnCallLemmas.{refusals_change_nothing}
use Rattle.model.proofs.laws.refusals_change_nothing.Goals as goal

pub returns : goal.returns
returns c = refusals_change_nothing
