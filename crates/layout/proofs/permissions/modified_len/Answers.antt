use Rattle.std.proofs.Common.{sym}
use Rattle.layout.proofs.RecordLengths.{length-modified}
use Rattle.layout.proofs.permissions.modified_len.Goals as goal

pub returns-then-has_attributes-clause-value : goal.returns-then-has_attributes-clause-value
returns-then-has_attributes-clause-value c = λ time. rw c.if-has_attributes.true (sym (length-modified time))
