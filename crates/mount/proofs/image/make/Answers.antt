use Rattle.std.proofs.lemmas.Result.{IfOk-weaker}
use Rattle.station.specs.Images.{Images}
use Rattle.station.specs.Moments.{Meaning}
use Rattle.model.specs.States.{State}
use Rattle.making.specs.Images.{OpensAlone}
use Rattle.system.specs.Images.{OpensTo}
use Rattle.mount.proofs.image.make.Goals as goal

-- what opens by no record opens
by_none : (m : Meaning) (s : State) (c : Images) → OpensAlone m s c → OpensTo m s c
by_none m s c by = record { opens = by.opens }

pub returns-clause-opens : goal.returns-clause-opens
returns-clause-opens g c =
    IfOk-weaker c.make.result _ _ (λ made each honest images left. by_none (g.S.Station.meaning made) _ images (each honest images left)) c.make.ensures.opens
