use Rattle.std.proofs.Common.{◌∙◌, sym, ap, length}
use Rattle.memory_station.specs.FaultPlan.{planned, kept_of}
use Rattle.memory_station.specs.declared.faults.Fate.{Fate}
use Rattle.memory_station.specs.declared.faults.Faults.{Faults}
use Rattle.memory_station.specs.Sim.{plan_of}
use Rattle.memory_station.proofs.MediaLemmas.{nv_write_after}
use Rattle.memory_station.proofs.SimLemmas.{next_write_is, write_follows}
use Rattle.memory_station.proofs.sim.Sim.try_nv_write.Goals as goal

pub returns-clause-follows : goal.returns-clause-follows
returns-clause-follows c =
    let is = next_write_is c.args.self.now c.of_write-fate.result c.of_write-fate.ensures in
    write_follows c.args.self.now c.end_write.new.self c.of_write-fate.result _ c.answer.result (sym c.if-is_cut.ensures) is c.answer.ensures c.end_write.ensures.power
    (λ cut. c.end_write.ensures.cut cut ∙ ap (λ (f : Faults). f.keep) c.count_write.ensures)
    (λ off. c.end_write.ensures.plan off ∙ ap planned c.count_write.ensures)
    (nv_write_after _ c.nv_write.new.self _ _ _ _ _ c.in-Ok.ensures.ok
    (c.kept_of-kept.ensures.kept ∙ ap (λ (f : Fate). kept_of (plan_of c.args.self.now) f (length c.args.bytes.now)) is) c.end_write.ensures.media)
