use Rattle.std.proofs.Common.{◌+◌, arith}
use Rattle.layout.proofs.WritingLaws.{writes_both, written_to}
use Rattle.layout.proofs.attributes.put_attributes.Goals as goal

pub returns : goal.returns
returns c =
    let at = c.args.at in
    writes_both c.put_zeros.ensures
    (writes_both (written_to {end = at + 7} (omega arith) c.put_u32.ensures)
    (writes_both (written_to {end = at + 11} (omega arith) c.put_u32-2.ensures)
    (writes_both (written_to {end = at + 23} (omega arith) c.put_time.ensures)
    (writes_both (written_to {end = at + 35} (omega arith) c.put_time-2.ensures)
    (writes_both (written_to {end = at + 43} (omega arith) c.put_u64.ensures) (written_to {end = at + 47} (omega arith) c.put_zeros-2.ensures))))))
