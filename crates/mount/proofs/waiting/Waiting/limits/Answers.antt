use Rattle.std.proofs.Common.{◌∙◌, ap, sym}
use Rattle.model.specs.States.{State}
use Rattle.mount.proofs.waiting.Waiting.limits.Goals as goal

pub returns : goal.returns
returns g c = λ s kept shows. c.limits.ensures ∙ sym (ap (λ (t : State). t.limits) shows.ahead.shown.state)
