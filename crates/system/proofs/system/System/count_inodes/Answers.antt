use Rattle.std.proofs.Common.{◌∙◌, ap, sym}
use Rattle.layout.specs.Limits.{Sizes}
use Rattle.model.specs.States.{State}
use Rattle.system.proofs.system.System.count_inodes.Goals as goal

pub returns-clause-served : goal.returns-clause-served
returns-clause-served g c = λ table s serves.
    c.inodes.ensures.value ∙ ap (λ (sizes : Sizes). sizes.inodes) (c.geometry.ensures ∙ c.args.self.now.sizes) ∙ sym (ap (λ (u : State). u.limits.inodes) serves.state)

pub returns-clause-ahead : goal.returns-clause-ahead
returns-clause-ahead g c = λ waits table s kept ahead.
    c.inodes.ensures.value ∙ ap (λ (sizes : Sizes). sizes.inodes) (c.geometry.ensures ∙ c.args.self.now.sizes) ∙ sym (ap (λ (u : State). u.limits.inodes) ahead.shown.state)
