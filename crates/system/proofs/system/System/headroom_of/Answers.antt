use Rattle.std.proofs.Common.{◌∙◌, ap}
use Rattle.layout.specs.Record.{change_of}
use Rattle.model.specs.Records.{work_of}
use Rattle.model.specs.Room.{headroom}
use Rattle.model.specs.declared.costs.Costs.{Costs}
use Rattle.system.proofs.system.System.headroom_of.Goals as goal

pub returns-clause-headroom : goal.returns-clause-headroom
returns-clause-headroom g c = λ v sized.
    c.headroom_of.ensures.headroom v sized ∙ ap (λ (x : Costs). headroom x (work_of v (change_of c.args.change.now))) c.costs.ensures
