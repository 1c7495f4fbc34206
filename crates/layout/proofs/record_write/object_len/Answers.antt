use Rattle.std.proofs.Common.{sym, arith}
use Rattle.layout.proofs.RecordLengths.{length-text_bytes}
use Rattle.layout.proofs.record_write.object_len.Goals as goal

pub returns-in-Link-clause-value : goal.returns-in-Link-clause-value
returns-in-Link-clause-value c = rw c.in-Link.is (sym (length-text_bytes c.in-Link.permissions c.in-Link.text.now))

pub returns-in-Link-clause-short : goal.returns-in-Link-clause-short
returns-in-Link-clause-short c =
    let limits = rw c.in-Link.is at c.requires in
    omega (arith, limits.1.short)
