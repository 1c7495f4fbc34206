use Rattle.std.proofs.Common.{rules}
use Rattle.memory_station.specs.FaultPlan.{is_done}
use Rattle.memory_station.specs.Media.{Adds}
use Rattle.memory_station.specs.Sim.{FollowsSync, next_sync}
use Rattle.memory_station.specs.declared.history.Call.TheVariants.{Sync}
use Rattle.memory_station.specs.declared.media.Media.{Media}
use Rattle.memory_station.proofs.SimLemmas.{follows_after, does-sync, done-sync}
use Rattle.memory_station.proofs.sim.SimStation.sync.Goals as goal
use Rattle.memory_station.proofs.sim.SimStation.sync.Goals.{After-count_write}

follows : (c : After-count_write) → FollowsSync c.args.self.now c.count_write.new.self c.count_write.result
follows c =
    let s = c.args.self.now in
    follows_after s c.try_sync-answer.new.self c.count_write.new.self (next_sync s) (λ (m : Media). Adds s.media m (Sync (is_done (next_sync s))))
    c.try_sync-answer.result c.count_write.result c.count_write.ensures.same c.count_write.ensures.media c.count_write.ensures.faults c.try_sync-answer.ensures.follows

pub returns-clause-call : goal.returns-clause-call
returns-clause-call c = does-sync c.args.self.now c.count_write.new.self c.count_write.result (follows (goal.at.returns-clause-call c).After-count_write) (search rules)

pub returns-clause-settled : goal.returns-clause-settled
returns-clause-settled c = done-sync c.args.self.now c.count_write.new.self c.count_write.result (follows (goal.at.returns-clause-settled c).After-count_write)

pub returns-clause-planned : goal.returns-clause-planned
returns-clause-planned c = follows (goal.at.returns-clause-planned c).After-count_write
