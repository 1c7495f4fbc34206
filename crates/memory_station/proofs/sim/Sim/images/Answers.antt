use Rattle.memory_station.proofs.SimLemmas.{may_leave-images, left-by_cut}
use Rattle.memory_station.proofs.sim.Sim.images.Goals as goal

pub returns-clause-left : goal.returns-clause-left
returns-clause-left c = may_leave-images c.args.self.now _ _ c.deref.ensures.value c.deref-2.ensures.value

pub returns-clause-kept : goal.returns-clause-kept
returns-clause-kept c = left-by_cut c.args.self.now _ c.deref-2.result.now c.deref.ensures.value
