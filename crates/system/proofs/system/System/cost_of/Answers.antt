use Rattle.std.proofs.Common.{◌∙◌, ap}
use Rattle.layout.specs.Record.{change_of}
use Rattle.model.specs.Records.{work_of}
use Rattle.model.specs.Room.{cost}
use Rattle.model.specs.declared.costs.Costs.{Costs}
use Rattle.system.proofs.system.System.cost_of.Goals as goal

pub returns-clause-cost : goal.returns-clause-cost
returns-clause-cost g c = λ v sized.
    c.cost_of.ensures.cost v sized ∙ ap (λ (x : Costs). cost x (work_of v (change_of c.args.change.now))) c.costs.ensures

pub returns-clause-few : goal.returns-clause-few
returns-clause-few g c = c.cost_of.ensures.few c.args.self.now.root.geometry c.costs.ensures
