use Rattle.buffers.proofs.DiskLaws.{sector_stored}
use Rattle.buffers.proofs.cache.Buffers.store_sector.Goals as goal

pub returns-in-Ok-clause-shows : goal.returns-in-Ok-clause-shows
returns-in-Ok-clause-shows g c = λ disk shows.
    sector_stored (g.S.Station.meaning c.args.self.now.station) (g.S.Station.meaning c.write_sector.new.self) c.args.self.now.kept c.forget.new.self c.args.sector c.args.bytes.now disk c.told-bytes
    c.in-Ok.ensures.call.same c.in-Ok.ensures.written c.forget.ensures.loses c.forget.ensures.gone shows
