use Rattle.std.proofs.Common.{arith}
use Rattle.layout.proofs.WritingLaws.{writes_both, written_to}
use Rattle.layout.proofs.record.Record.write.Goals as goal

pub returns : goal.returns
returns c =
    writes_both (rw c.op.ensures at c.put_byte.ensures) (writes_both (written_to (omega (arith, c.time_len.ensures.value)) c.put_call_time.ensures) (rw c.is_some.ensures at c.write_fields.ensures))
