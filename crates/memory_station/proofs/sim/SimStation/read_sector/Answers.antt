use Rattle.std.proofs.Common.{subst, rules}
use Rattle.station.specs.Images.{Tells}
use Rattle.memory_station.proofs.SimLemmas.{does-read, read_media, on_after_read, sector-read}
use Rattle.memory_station.proofs.sim.SimStation.read_sector.Goals as goal

pub returns-in_err-begin_read-clause-call : goal.returns-in_err-begin_read-clause-call
returns-in_err-begin_read-clause-call c = does-read c.args.self.now c.begin_read.new.self c.from_residual.result (search rules) (search rules)

pub returns-clause-call : goal.returns-clause-call
returns-clause-call c =
    let it = does-read c.args.self.now c.begin_read.new.self _ c.in_ok-begin_read.ensures.follows c.in_ok-begin_read.ensures.counts in
    record { same = it.same; counts = record { writes = it.counts.writes; ok = it.counts.ok; err = tt }; goes = it.goes }

pub returns-clause-bytes : goal.returns-clause-bytes
returns-clause-bytes c =
    let follows = c.in_ok-begin_read.ensures.follows in
    λ _. subst (λ sector. Tells c.read.result c.read.new.out sector)
    (sector-read c.args.self.now c.begin_read.new.self c.args.n (read_media _ _ _ follows) (on_after_read _ _ _ follows)) c.read.ensures
