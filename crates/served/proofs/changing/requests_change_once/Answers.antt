use Rattle.served.proofs.ChangingLaws.{changes_are_few, writes_change_by_parts}
use Rattle.served.proofs.changing.requests_change_once.Goals as goal

pub returns-clause-few : goal.returns-clause-few
returns-clause-few c = changes_are_few

pub returns-clause-parts : goal.returns-clause-parts
returns-clause-parts c = writes_change_by_parts
