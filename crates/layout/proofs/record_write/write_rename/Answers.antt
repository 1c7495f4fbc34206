use Rattle.std.proofs.Common.{◌+◌, length, arith}
use Rattle.layout.proofs.WritingLaws.{writes_both, written_to}
use Rattle.layout.proofs.record_write.write_rename.Goals as goal

pub returns : goal.returns
returns c =
    let next = c.args.at + 5 + length c.args.name.now in
    writes_both c.put_number.ensures (writes_both (written_to {end = next} (omega arith) c.put_name.ensures) (writes_both c.put_number-2.ensures (written_to (omega arith) c.put_name-2.ensures)))
