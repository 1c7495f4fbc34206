use Rattle.buffers.proofs.DiskLaws.{kept_less, read_less, read_is}
use Rattle.buffers.proofs.cache.Buffers.fetch.Goals as goal

pub returns-in-Some-clause-same : goal.returns-in-Some-clause-same
returns-in-Some-clause-same g c = λ disk shows.
    kept_less (g.S.Station.meaning c.args.self.now.station) c.args.self.now.kept c.take_cached.new.self disk c.take_cached.ensures.loses shows

pub returns-in-Some-clause-block : goal.returns-in-Some-clause-block
returns-in-Some-clause-block g c = λ disk shows. shows.kept_is c.args.place c.in-Some.block (c.take_cached.ensures.had c.in-Some.block c.in-Some.is)

pub returns-in-None-clause-same : goal.returns-in-None-clause-same
returns-in-None-clause-same g c = λ disk shows.
    read_less (g.S.Station.meaning c.args.self.now.station) (g.S.Station.meaning c.read_block.new.station) c.args.self.now.kept c.take_cached.new.self disk
    c.read_block.ensures.reads c.take_cached.ensures.loses shows

pub returns-in-None-clause-block : goal.returns-in-None-clause-block
returns-in-None-clause-block g c = λ disk shows.
    read_is (g.S.Station.meaning c.args.self.now.station) c.args.self.now.kept c.args.place disk c.read_block.result c.requires.within c.read_block.ensures.block shows
