use Rattle.records.proofs.Recording.{hinders, marked, unmarked}
use Rattle.records.proofs.attributes.prepare_attributes.Goals as goal

pub returns-in_err-plan-clause-decides : goal.returns-in_err-plan-clause-decides
returns-in_err-plan-clause-decides g c = hinders _ c.from_residual.result c.from_residual.ensures.1 c.in_err-plan.ensures.decides

pub returns-in_err-prepared-clause-decides : goal.returns-in_err-prepared-clause-decides
returns-in_err-prepared-clause-decides g c = unmarked c.from_residual-in_err-prepared.result c.from_residual-in_err-prepared.ensures.1 c.in_ok-plan.ensures.decides c.in_err-prepared.ensures

pub returns-clause-decides : goal.returns-clause-decides
returns-clause-decides g c = marked c.in_ok-plan.ensures.decides c.in_ok-prepared.ensures c.of_object-marks.ensures.time c.requires (λ detail disk settled v stands. c.of_object-marks.ensures.touches)
