use Rattle.model.proofs.OwnCallLemmas.{refuses_by_its_own}
use Rattle.model.proofs.laws.commands_refuse_by_their_own.Goals as goal

pub returns : goal.returns
returns c = refuses_by_its_own
