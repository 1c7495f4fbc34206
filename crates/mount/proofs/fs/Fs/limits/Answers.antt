use Rattle.std.proofs.Common.{◌∙◌, ap, sym}
use Rattle.model.specs.States.{State}
use Rattle.mount.proofs.fs.Fs.limits.Goals as goal

pub returns : goal.returns
returns g c = λ s serves still. c.limits.ensures ∙ sym (ap (λ (t : State). t.limits) (serves.kept still).state)
