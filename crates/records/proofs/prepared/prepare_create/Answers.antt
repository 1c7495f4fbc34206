use Rattle.records.proofs.Recording.{hinders, marked, unmarked}
use Rattle.records.proofs.prepared.prepare_create.Goals as goal

pub returns-in_err-plan : goal.returns-in_err-plan
returns-in_err-plan g c = hinders _ c.from_residual.result c.from_residual.ensures.1 c.in_err-plan.ensures.decides

pub returns-in_err-prepared : goal.returns-in_err-prepared
returns-in_err-prepared g c = unmarked c.from_residual-in_err-prepared.result c.from_residual-in_err-prepared.ensures.1 c.in_ok-plan.ensures.decides c.in_err-prepared.ensures

pub returns : goal.returns
returns g c = marked c.in_ok-plan.ensures.decides c.in_ok-prepared.ensures c.of_entry-marks.ensures.time c.requires (λ detail disk settled v stands. c.of_entry-marks.ensures.touches)
