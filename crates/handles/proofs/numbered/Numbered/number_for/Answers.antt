use Rattle.std.proofs.Common.{◌∙◌, sym}
use Rattle.std.proofs.lemmas.Bool.{false≢true}
use Rattle.handles.proofs.KeepLemmas.{full_where}
use Rattle.handles.proofs.numbered.Numbered.number_for.Goals as goal

pub returns-then-may_make-clause-gives : goal.returns-then-may_make-clause-gives
returns-then-may_make-clause-gives g c = λ s kept shows. full_where _ _ _ c.next_number.result (c.next_number.ensures.fresh s kept shows)

pub returns-else-may_make-clause-gives : goal.returns-else-may_make-clause-gives
returns-else-may_make-clause-gives g c = λ s kept shows makes. absurd (false≢true (sym c.if-may_make.false ∙ c.may_make.ensures ∙ makes))
