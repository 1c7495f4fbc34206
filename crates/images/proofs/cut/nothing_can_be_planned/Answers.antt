use Rattle.images.proofs.IdleLaws as laws
use Rattle.images.proofs.cut.nothing_can_be_planned.Goals as goal

pub returns : goal.returns
returns c = laws.idle_plan
