use Rattle.conspoint.proofs.PointCuts.{none_written, shown_none}
use Rattle.conspoint.proofs.writing.write_point.Goals as goal

pub returns-clause-any_moment : goal.returns-clause-any_moment
returns-clause-any_moment g c = c.write_rest.ensures.any_moment (none_written (g.S.Station.meaning c.args.buffers.now.station) c.args.plan c.requires.none)

pub returns-clause-settled : goal.returns-clause-settled
returns-clause-settled g c = λ honest. c.write_rest.ensures.settled (none_written (g.S.Station.meaning c.args.buffers.now.station) c.args.plan c.requires.none)

pub returns-clause-shows : goal.returns-clause-shows
returns-clause-shows g c = λ disk shows. c.write_rest.ensures.shows disk (shown_none _ c.args.buffers.now.kept c.args.plan disk c.requires.none shows)
