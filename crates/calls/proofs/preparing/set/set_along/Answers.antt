use Rattle.std.proofs.Common.{inr, refl, ◌≤◌, nat_abs, IfSome, sym, subst}
use Rattle.layout.specs.Limits.{Sizes}
use Rattle.layout.specs.StateLimits.{limits_of}
use Rattle.calls.proofs.PrepareSteps.{follows, passes}
use Rattle.calls.proofs.SetLaws.{set_comes, set_nowhere}
use Rattle.calls.proofs.preparing.set.set_along.Goals as goal

pub returns-in_err-number : goal.returns-in_err-number
returns-in_err-number g c = passes _ c.from_residual.result c.from_residual.ensures.1 c.in_err-number.ensures
    (λ disk settled v table stands volume mounted errno is.
    set_nowhere (limits_of c.args.inodes.now.geometry) c.args.now v table c.args.path.now c.args.settings errno (inr (c.requires.passed, is)))

pub set_object-requires-clause-within : goal.set_object-requires-clause-within
set_object-requires-clause-within g c =
    subst (λ (z : Sizes). IfSome c.args.settings.size (λ size. nat_abs size ≤ (limits_of z).file_bytes)) (sym c.in_ok-number.ensures.looks.geometry) c.requires.within

pub returns : goal.returns
returns g c = follows c.in_ok-number.ensures.looks c.set_object.ensures (λ disk settled v table stands volume mounted r given.
    set_comes (limits_of c.args.inodes.now.geometry) c.args.now v table c.args.path.now c.args.settings c.in_ok-number.number
    (c.requires.passed, c.in_ok-number.ensures.leads disk settled v table stands volume) r
    (λ o object. given o object (c.in_ok-number.ensures.followed disk settled v stands volume refl)))
