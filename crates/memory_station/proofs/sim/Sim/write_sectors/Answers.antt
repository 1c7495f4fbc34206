use Rattle.memory_station.specs.FaultPlan.{is_done}
use Rattle.memory_station.specs.Media.{AddsWrite}
use Rattle.memory_station.specs.Sim.{next_write}
use Rattle.memory_station.specs.declared.media.Media.{Media}
use Rattle.memory_station.proofs.SimLemmas.{follows_after}
use Rattle.memory_station.proofs.sim.Sim.write_sectors.Goals as goal

pub returns-clause-follows : goal.returns-clause-follows
returns-clause-follows c =
    let s = c.args.self.now in
    follows_after s c.try_write-answer.new.self c.count_write.new.self (next_write s) (λ (m : Media). AddsWrite s.media m c.args.first c.args.bytes.now (is_done (next_write s)))
    c.try_write-answer.result c.count_write.result c.count_write.ensures.same c.count_write.ensures.media c.count_write.ensures.faults c.try_write-answer.ensures.follows
