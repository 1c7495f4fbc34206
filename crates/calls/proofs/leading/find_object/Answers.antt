use Rattle.std.proofs.Common.{rules, ◌∙◌, Ok, ap, sym}
use Rattle.calls.proofs.WhereSteps.{leads_by, leads_nowhere, led_to}
use Rattle.calls.proofs.leading.find_object.Goals as goal

pub returns-in_err-target : goal.returns-in_err-target
returns-in_err-target g c = leads_nowhere c.from_residual.result c.from_residual.ensures.1 c.in_err-target.ensures.looks c.in_err-target.ensures.damaged

pub returns-in-Object : goal.returns-in-Object
returns-in-Object g c = leads_by (search rules) (search rules) c.in_ok-target.ensures (ap (λ x. Ok (led_to x)) c.in-Object.is)

pub returns-in-Place : goal.returns-in-Place
returns-in-Place g c = leads_by (search rules) (search rules) c.in_ok-target.ensures (ap (λ x. Ok (led_to x)) c.in-Place.is ∙ sym c.number_of.ensures)
