use Rattle.std.proofs.Common.{◌*◌}
use Rattle.memory_station.proofs.SimLemmas.{does-write, done-write}
use Rattle.memory_station.proofs.sim.SimStation.write_block.Goals as goal

pub returns-clause-call : goal.returns-clause-call
returns-clause-call c = does-write c.args.self.now c.write_sectors.new.self _ (8 * c.args.b) c.args.bytes.now (rw c.from.ensures at c.write_sectors.ensures.follows) c.write_sectors.ensures.counts

pub returns-clause-written : goal.returns-clause-written
returns-clause-written c = done-write c.args.self.now c.write_sectors.new.self _ (8 * c.args.b) c.args.bytes.now (rw c.from.ensures at c.write_sectors.ensures.follows)

pub returns-clause-planned : goal.returns-clause-planned
returns-clause-planned c = rw c.from.ensures at c.write_sectors.ensures.follows
