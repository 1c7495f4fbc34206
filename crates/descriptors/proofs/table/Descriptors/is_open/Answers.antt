use Rattle.std.proofs.Common.{is_some, ap, ◌∙◌}
use Rattle.descriptors.proofs.LookLemmas.{opened_number}
use Rattle.descriptors.proofs.table.Descriptors.is_open.Goals as goal

pub returns : goal.returns
returns c = c.is_some.ensures ∙ ap is_some c.get.ensures ∙ opened_number c.args.self.now c.args.number
