use Rattle.layout.specs.StateLimits.{limits_of}
use Rattle.calls.proofs.SeeSteps.{follows, passes}
use Rattle.calls.proofs.StatLaws.{stat_answers, stat_refused}
use Rattle.calls.proofs.reading.stat.stat_at.Goals as goal

pub returns-in_err-number : goal.returns-in_err-number
returns-in_err-number g c = passes _ c.from_residual.result c.from_residual.ensures.1 c.in_err-number.ensures
    (λ disk settled v table stands volume. stat_refused v table (limits_of c.args.inodes.now.geometry) c.args.follow c.args.path.now)

pub returns : goal.returns
returns g c = follows c.in_ok-number.ensures.looks c.stat_number.ensures.told (λ disk settled v table stands volume stat tells.
    let text = c.args.path.now in
    let led = c.in_ok-number.ensures.leads disk settled v table stands volume in
    stat_answers v table (limits_of c.args.inodes.now.geometry) volume c.volumes_tell_links.ensures c.in_ok-number.number c.args.follow text stat led tells)
