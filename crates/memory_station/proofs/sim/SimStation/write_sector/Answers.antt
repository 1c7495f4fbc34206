use Rattle.memory_station.proofs.SimLemmas.{does-write, done-write}
use Rattle.memory_station.proofs.sim.SimStation.write_sector.Goals as goal

pub returns-clause-call : goal.returns-clause-call
returns-clause-call c = does-write c.args.self.now c.write_sectors.new.self _ c.args.n c.args.bytes.now c.write_sectors.ensures.follows c.write_sectors.ensures.counts

pub returns-clause-written : goal.returns-clause-written
returns-clause-written c = done-write c.args.self.now c.write_sectors.new.self _ c.args.n c.args.bytes.now c.write_sectors.ensures.follows
