use Rattle.std.proofs.Common.{◌≡◌, ◌∙◌, ◌*◌, ap, arith}
use Rattle.model.specs.declared.costs.Costs.{Costs}
use Rattle.system.proofs.system.System.cost_of_orphans.Goals as goal

pub overflow_mul-result : goal.overflow_mul-result
overflow_mul-result g c =
    let each : c.from.result ≡ 4 = c.from.ensures ∙ ap (λ (x : Costs). x.orphan) c.costs.ensures in
    rw each (omega (arith, c.from-2.ensures))

pub returns : goal.returns
returns g c =
    let each : c.from.result ≡ 4 = c.from.ensures ∙ ap (λ (x : Costs). x.orphan) c.costs.ensures in
    rw each (ap (λ k. 4 * k) c.from-2.ensures)
