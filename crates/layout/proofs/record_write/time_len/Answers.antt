use Rattle.std.proofs.Common.{sym}
use Rattle.layout.proofs.RecordLengths.{length-time}
use Rattle.layout.proofs.record_write.time_len.Goals as goal

pub returns-in-Some-clause-value : goal.returns-in-Some-clause-value
returns-in-Some-clause-value c = rw c.in-Some.is (sym (length-time c.in-Some.field-0))
