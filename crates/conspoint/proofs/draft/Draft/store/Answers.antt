use Rattle.conspoint.proofs.StepLemmas.{places_err, places_ok, stores_then}
use Rattle.conspoint.proofs.draft.Draft.store.Goals as goal

pub returns-in_err-put-clause-step : goal.returns-in_err-put-clause-step
returns-in_err-put-clause-step c =
    places_err c.from_residual-in_err-put.result c.from_residual-in_err-put.ensures.1
    (stores_then c.in_ok-place.ensures.step c.in_ok-place.ensures.taken c.in_err-put.ensures.step c.put.ensures.others)

pub returns-clause-step : goal.returns-clause-step
returns-clause-step c =
    places_ok (stores_then c.in_ok-place.ensures.step c.in_ok-place.ensures.taken c.in_ok-put.ensures.step c.put.ensures.others)
