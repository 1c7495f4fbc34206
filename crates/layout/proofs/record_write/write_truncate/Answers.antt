use Rattle.std.proofs.Common.{arith}
use Rattle.layout.proofs.WritingLaws.{writes_both, written_to}
use Rattle.layout.proofs.record_write.write_truncate.Goals as goal

pub returns : goal.returns
returns c =
    let at = c.args.at in
    writes_both c.put_number.ensures (written_to (omega arith) c.put_u64.ensures)
