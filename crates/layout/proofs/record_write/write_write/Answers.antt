use Rattle.std.proofs.Common.{◌+◌, arith}
use Rattle.layout.proofs.WritingLaws.{writes_both, written_to}
use Rattle.layout.proofs.record_write.write_write.Goals as goal

pub returns : goal.returns
returns c =
    let at = c.args.at in
    writes_both c.put_number.ensures (writes_both (written_to {end = at + 12} (omega arith) c.put_u64.ensures) (writes_both (written_to {end = at + 16} (omega arith) c.put_u32.ensures) c.put_bytes.ensures))
