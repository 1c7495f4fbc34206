use Rattle.std.proofs.Common.{◌≡◌, ◌∙◌, ap, arith}
use Rattle.model.specs.declared.limits.Limits.{Limits}
use Rattle.checker.proofs.log.cost_of_orphans.Goals as goal

pub overflow_mul-result : goal.overflow_mul-result
overflow_mul-result c =
    let each : c.from.result ≡ 4 = c.from.ensures ∙ ap (λ (l : Limits). l.costs.orphan) c.limits.ensures in
    rw each (omega (arith, c.from-2.ensures))

pub returns : goal.returns
returns c =
    let each : c.from.result ≡ 4 = c.from.ensures ∙ ap (λ (l : Limits). l.costs.orphan) c.limits.ensures in
    rw each (omega (arith, c.from-2.ensures))
