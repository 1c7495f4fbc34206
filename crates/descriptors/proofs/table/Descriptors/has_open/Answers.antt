use Rattle.descriptors.proofs.LookLemmas.{told_open}
use Rattle.descriptors.proofs.table.Descriptors.has_open.Goals as goal

pub returns-clause-tells : goal.returns-clause-tells
returns-clause-tells c = told_open c.args.self.now c.is_empty.result (λ n empty. c.is_empty.ensures.none empty n) c.is_empty.ensures.some
