use Rattle.std.proofs.Common.{refl}
use Rattle.mount.proofs.AttemptLemmas.{opened_serves}
use Rattle.mount.proofs.mounting.mount.Goals as goal

pub returns-in-Ok-clause-opens : goal.returns-in-Ok-clause-opens
returns-in-Ok-clause-opens g c honest s opens =
    let found = c.in-Ok.ensures.opens honest s opens in
    (found.0, found.1, opened_serves _ found.0 refl found.2)
