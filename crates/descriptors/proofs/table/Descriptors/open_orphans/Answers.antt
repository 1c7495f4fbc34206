use Rattle.std.proofs.Common.{◌∙◌, arith}
use Rattle.descriptors.proofs.OrphanLemmas.{orphans_counted, orphans_few}
use Rattle.descriptors.proofs.table.Descriptors.open_orphans.Goals as goal

pub overflow_cast-result : goal.overflow_cast-result
overflow_cast-result c = omega (arith, c.orphans.ensures.counted, orphans_few c.args.self.now c.orphans.ensures.unique)

pub returns-clause-few : goal.returns-clause-few
returns-clause-few c = omega (arith, c.orphans.ensures.counted, orphans_few c.args.self.now c.orphans.ensures.unique)

pub returns-clause-counted : goal.returns-clause-counted
returns-clause-counted c limits v volume mounted fits = c.orphans.ensures.counted ∙ orphans_counted c.args.self.now c.orphans.ensures.unique limits v volume mounted fits
