use Rattle.records.proofs.contents.plan.Goals as goal

pub returns-in-Write : goal.returns-in-Write
returns-in-Write g c = rw c.in-Write.is c.plan_write.ensures
