use Rattle.std.proofs.Common.{arith}
use Rattle.conspoint.proofs.PointCuts as laws
use Rattle.conspoint.proofs.writing.write_rest.Goals as goal

pub returns-clause-any_moment : goal.returns-clause-any_moment
returns-clause-any_moment g c holds =
    laws.finished (g.S.Station.meaning c.args.buffers.now.station) (g.S.Station.meaning c.write_some.new.buffers.station) c.args.plan c.in_ok-write_some.ensures.goes _ c.in_ok-write_some.ensures.plan
    (g.S.Station.meaning c.finish.new.buffers.station) c.in_ok-write_some.ensures.writes.same (c.in_ok-write_some.ensures.written holds) c.finish.ensures.any_moment

pub returns-clause-settled : goal.returns-clause-settled
returns-clause-settled g c holds =
    laws.on_ok c.finish.result
    (laws.settled (g.S.Station.meaning c.args.buffers.now.station) (g.S.Station.meaning c.write_some.new.buffers.station) c.args.plan c.in_ok-write_some.ensures.goes _ c.in_ok-write_some.ensures.plan
    (g.S.Station.meaning c.finish.new.buffers.station) c.in_ok-write_some.ensures.writes.same c.finish.ensures.writes.same)
    (c.finish.ensures.settled (c.in_ok-write_some.ensures.written holds))

pub returns-clause-shows : goal.returns-clause-shows
returns-clause-shows g c disk shows =
    laws.on_ok c.finish.result
    (laws.shown_all (g.S.Station.meaning c.finish.new.buffers.station) c.finish.new.buffers.kept c.args.plan _ disk c.in_ok-write_some.ensures.plan
    (omega (arith, c.in_ok-write_some.ensures.next, c.left-left.ensures)))
    (c.finish.ensures.shows _ (c.in_ok-write_some.ensures.shows disk shows))
