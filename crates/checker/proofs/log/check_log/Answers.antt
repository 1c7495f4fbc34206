use Rattle.std.proofs.Common.{ap, rules}
use Rattle.station.specs.Images.{Images}
use Rattle.buffers.proofs.DiskLaws.{still_shows}
use Rattle.checker.proofs.log.check_log.Goals as goal

pub returns-in-Err-Damaged-clause-passes : goal.returns-in-Err-Damaged-clause-passes
returns-in-Err-Damaged-clause-passes g c disk shows faultless within =
    (faultless, λ changes log. c.in-Err-Damaged.ensures.damaged (search rules) shows.honest _ log.log.log)

pub returns-clause-passes : goal.returns-clause-passes
returns-clause-passes g c disk shows faultless within =
    let old = g.S.Station.meaning c.args.blocks.now.station in
    let new = g.S.Station.meaning c.load.new.station in
    let went = c.load.ensures.reads.goes shows.honest in
    c.replay_saved.ensures.passes disk old.seen.nvram (still_shows old new c.args.blocks.now.kept disk went.honest c.load.ensures.reads.same.sectors (ap (λ (i : Images). i.disk) went.seen) shows)
    (c.in-Ok.ensures.tells shows.honest) faultless within
