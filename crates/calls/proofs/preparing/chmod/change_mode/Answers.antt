use Rattle.std.proofs.Common.{refl}
use Rattle.layout.specs.StateLimits.{limits_of}
use Rattle.calls.proofs.AttributeLaws.{mode_comes, mode_refused, mode_there}
use Rattle.calls.proofs.PrepareSteps.{follows, passes}
use Rattle.calls.proofs.preparing.chmod.change_mode.Goals as goal

pub returns-in_err-number : goal.returns-in_err-number
returns-in_err-number g c = passes _ c.from_residual.result c.from_residual.ensures.1 c.in_err-number.ensures
    (λ disk settled v table stands volume mounted. mode_refused (limits_of c.args.inodes.now.geometry) c.args.now v table c.args.path.now c.args.mode)

pub returns : goal.returns
returns g c =
    let led = c.in_ok-number.ensures in
    follows led.looks c.change_attributes.ensures (λ disk settled v table stands volume mounted r given.
    let limits = limits_of c.args.inodes.now.geometry in
    let n = c.in_ok-number.number in
    let leads = led.leads disk settled v table stands volume in
    let plain = led.followed disk settled v stands volume refl in
    mode_comes limits c.args.now v table c.args.path.now c.args.mode n leads plain r (given (mode_there limits c.args.now v table c.args.path.now c.args.mode n leads plain)))
