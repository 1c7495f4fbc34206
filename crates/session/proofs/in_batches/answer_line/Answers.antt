use Rattle.std.proofs.Common.{◌∷◌, ◌++◌, [], inl, inr, refl}
use Rattle.session.proofs.in_batches.answer_line.Goals as goal

pub returns-in-Err-clause-goes_on : goal.returns-in-Err-clause-goes_on
returns-in-Err-clause-goes_on g c first o dialog line under_way heard = (dialog, c.in-Err.ensures.goes_on c.args.durability first o dialog line under_way heard, inl refl)

pub returns-in-Ok-go_on-clause-goes_on : goal.returns-in-Ok-go_on-clause-goes_on
returns-in-Ok-go_on-clause-goes_on g c first o dialog line under_way heard =
    let on = c.in-Ok.ensures.goes_on c.args.durability first o dialog line under_way heard in
    record {
      step = on.step;
      comes = on.comes;
      under_way = c.in-Ok-go_on.ensures.goes_on first o (dialog ++ (line, on.step) ∷ []) on.under_way;
      refused = on.refused;
    }

pub returns-in-Err-go_on-clause-goes_on : goal.returns-in-Err-go_on-clause-goes_on
returns-in-Err-go_on-clause-goes_on g c first o dialog line under_way heard =
    let on = c.in-Ok.ensures.goes_on c.args.durability first o dialog line under_way heard in
    (dialog ++ (line, on.step) ∷ [], c.in-Err-go_on.ensures.goes_on first o (dialog ++ (line, on.step) ∷ []) on.under_way, inr (on.step, on.comes, refl))
