use Rattle.std.proofs.Common.{length, rules}
use Rattle.memory_station.specs.FaultPlan.{kept_of}
use Rattle.memory_station.specs.Media.{AddsNvWrite}
use Rattle.memory_station.specs.Sim.{FollowsNvWrite, plan_of, next_write}
use Rattle.memory_station.specs.declared.media.Media.{Media}
use Rattle.memory_station.proofs.SimLemmas.{follows_after, does-nv_write, done-nv_write, left-nv_write}
use Rattle.memory_station.proofs.sim.SimStation.nv_write.Goals as goal
use Rattle.memory_station.proofs.sim.SimStation.nv_write.Goals.{After-count_write}

follows : (c : After-count_write) → FollowsNvWrite c.args.at c.args.bytes.now c.args.self.now c.count_write.new.self c.count_write.result
follows c =
    let s = c.args.self.now in
    follows_after s c.try_nv_write-answer.new.self c.count_write.new.self (next_write s)
    (λ (m : Media). AddsNvWrite s.media m c.args.at c.args.bytes.now (kept_of (plan_of s) (next_write s) (length c.args.bytes.now)))
    c.try_nv_write-answer.result c.count_write.result c.count_write.ensures.same c.count_write.ensures.media c.count_write.ensures.faults c.try_nv_write-answer.ensures.follows

pub returns-clause-call : goal.returns-clause-call
returns-clause-call c = does-nv_write c.args.self.now c.count_write.new.self c.args.at c.args.bytes.now c.count_write.result (follows (goal.at.returns-clause-call c).After-count_write) (search rules)

pub returns-clause-written : goal.returns-clause-written
returns-clause-written c = done-nv_write c.args.self.now c.count_write.new.self c.args.at c.args.bytes.now c.count_write.result (follows (goal.at.returns-clause-written c).After-count_write)

pub returns-clause-kept : goal.returns-clause-kept
returns-clause-kept c = left-nv_write c.args.self.now c.count_write.new.self c.args.at c.args.bytes.now c.count_write.result (follows (goal.at.returns-clause-kept c).After-count_write)

pub returns-clause-planned : goal.returns-clause-planned
returns-clause-planned c = follows (goal.at.returns-clause-planned c).After-count_write
