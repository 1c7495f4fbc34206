use Rattle.records.proofs.Looking.{seen}
use Rattle.records.proofs.name_removal.number_in.Goals as goal

pub returns-clause-number : goal.returns-clause-number
returns-clause-number g c = seen c.number_at.ensures.looks c.number_at.ensures.loads (λ detail. c.number_at.ensures.found {detail = detail}) (λ detail. c.number_at.ensures.damaged {detail = detail})
