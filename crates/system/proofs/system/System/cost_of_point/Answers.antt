use Rattle.std.proofs.Common.{◌∙◌, ap, arith}
use Rattle.model.specs.declared.costs.Costs.{Costs}
use Rattle.system.proofs.system.System.cost_of_point.Goals as goal

pub returns-clause-is : goal.returns-clause-is
returns-clause-is g c = c.from.ensures ∙ ap (λ (x : Costs). x.point) c.costs.ensures

pub returns-clause-few : goal.returns-clause-few
returns-clause-few g c = omega (arith, c.from.ensures, ap (λ (x : Costs). x.point) c.costs.ensures, c.args.self.now.is_root.head.sizes.most_blocks)
