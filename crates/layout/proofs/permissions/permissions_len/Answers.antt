use Rattle.std.proofs.Common.{sym}
use Rattle.layout.proofs.RecordLengths.{length-mode, length-permissions}
use Rattle.layout.proofs.permissions.permissions_len.Goals as goal

pub returns-then-has_attributes-clause-value : goal.returns-then-has_attributes-clause-value
returns-then-has_attributes-clause-value c = λ p. rw c.if-has_attributes.true (sym (length-permissions p))

pub returns-else-has_attributes-clause-value : goal.returns-else-has_attributes-clause-value
returns-else-has_attributes-clause-value c = λ p. rw c.if-has_attributes.false (sym (length-mode p))
