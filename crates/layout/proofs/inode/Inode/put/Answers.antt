use Rattle.std.proofs.Common.{◌+◌, arith}
use Rattle.layout.proofs.WritingLaws.{writes_both, written_to}
use Rattle.layout.proofs.inode.Inode.put.Goals as goal

pub returns : goal.returns
returns c =
    let at = c.args.at in
    rw (← c.code.ensures, ← c.bits.ensures.same, ← c.level_of.ensures)
    (writes_both (writes_both c.put_u16.ensures
    (writes_both (written_to {end = at + 4} (omega arith) c.put_u16-2.ensures)
    (writes_both (written_to {end = at + 8} (omega arith) c.put_u32.ensures)
    (writes_both (written_to {end = at + 16} (omega arith) c.put_u64.ensures)
    (written_to {end = at + 17} (omega arith) c.put_u8.ensures)))))
    (writes_both (written_to {end = at + 64} (omega arith) c.put_attributes.ensures) (written_to {end = at + 192} (omega arith) c.put_body.ensures)))
