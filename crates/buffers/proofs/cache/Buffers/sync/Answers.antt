use Rattle.buffers.proofs.DiskLaws.{same_shows}
use Rattle.buffers.proofs.cache.Buffers.sync.Goals as goal

pub returns-in-Ok-clause-shows : goal.returns-in-Ok-clause-shows
returns-in-Ok-clause-shows g c disk shows =
    same_shows (g.S.Station.meaning c.args.self.now.station) (g.S.Station.meaning c.sync.new.self) c.args.self.now.kept disk c.sync.ensures.call.same c.sync.ensures.call.goes shows

pub returns-in-Err-clause-shows : goal.returns-in-Err-clause-shows
returns-in-Err-clause-shows g c disk shows =
    same_shows (g.S.Station.meaning c.args.self.now.station) (g.S.Station.meaning c.sync.new.self) c.args.self.now.kept disk c.sync.ensures.call.same c.sync.ensures.call.goes shows
