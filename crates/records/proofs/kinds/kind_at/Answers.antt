use Rattle.records.proofs.Looking.{seen}
use Rattle.records.proofs.kinds.kind_at.Goals as goal

pub returns : goal.returns
returns g c = seen c.object_at.ensures.looks c.object_at.ensures.loads (λ detail. c.object_at.ensures.found {detail = detail}) (λ detail. c.object_at.ensures.damaged {detail = detail})
