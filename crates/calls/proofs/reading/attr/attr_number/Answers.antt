use Rattle.paths.proofs.Looks.{looks_more}
use Rattle.calls.proofs.SeeSteps.{tells_all, tells_no_more, tells_none}
use Rattle.calls.proofs.reading.attr.attr_number.Goals as goal

pub returns-in_err-stat : goal.returns-in_err-stat
returns-in_err-stat g c =
    tells_no_more _ c.from_residual.result c.from_residual.ensures.1 c.in_err-stat.ensures.told (λ v errno none. none)

pub returns-in_err-attributes : goal.returns-in_err-attributes
returns-in_err-attributes g c =
    let looks = c.in_ok-stat.ensures.told.looks in
    let then = c.in_err-attributes.ensures in
    tells_none c.from_residual-in_err-attributes.result c.from_residual-in_err-attributes.ensures.1 (looks_more looks then.looks) (λ disk settled v stands.
    then.damaged disk settled v (looks.kept disk settled v stands))

pub returns : goal.returns
returns g c =
    let told = c.in_ok-stat.ensures.told in
    let then = c.in_ok-attributes.ensures in
    tells_all (looks_more told.looks then.looks) (λ disk settled v stands.
    (told.tells disk settled v stands, (then.found disk settled v (told.looks.kept disk settled v stands)).0))
