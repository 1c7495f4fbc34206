use Rattle.conspoint.proofs.StepLemmas.{places_err, places_none, places_ok, places_out}
use Rattle.planning.proofs.change.place_head.Goals as goal

pub returns-in_err-block-clause-step : goal.returns-in_err-block-clause-step
returns-in_err-block-clause-step c =
    places_out c.from_residual.result c.from_residual.ensures.1 (places_none {n = 0} {y = tt {0}} c.args.draft.now)

pub returns-in_err-place-clause-step : goal.returns-in_err-place-clause-step
returns-in_err-place-clause-step c =
    places_err c.from_residual-in_err-place.result c.from_residual-in_err-place.ensures.1 c.in_err-place.ensures.step

pub returns-clause-step : goal.returns-clause-step
returns-clause-step c = places_ok c.in_ok-place.ensures.step
