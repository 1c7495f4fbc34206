use Rattle.memory_station.proofs.SimLemmas.{is_loaded}
use Rattle.memory_station.proofs.sim.Sim.load_bad.Goals as goal

pub returns-clause-loaded : goal.returns-clause-loaded
returns-clause-loaded c = is_loaded _ _ _ c.in_ok-load.field-0 c.in_ok-load.ensures.loaded
