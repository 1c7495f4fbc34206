use Rattle.system.proofs.SteppingLaws.{planned_step}
use Rattle.system.proofs.system.System.plan.Goals as goal

pub returns : goal.returns
returns g c =
    planned_step {G = g.S.Station} c.cuts_open.ensures c.args.self.now c.begin_point.new.self c.requires.none c.requires.epoch c.begin_point.result c.begin_point.ensures
    (g.met.S.Station.seen_may_be_left c.begin_point.new.self.blocks.buffers.station)
