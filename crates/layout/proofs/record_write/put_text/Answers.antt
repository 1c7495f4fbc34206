use Rattle.std.proofs.Common.{arith}
use Rattle.layout.proofs.RecordLengths.{length-text_bytes}
use Rattle.layout.proofs.WritingLaws.{writes_both, written_to}
use Rattle.layout.proofs.record_write.put_text.Goals as goal

pub put_u16-requires : goal.put_u16-requires
put_u16-requires c =
    let room = rw c.in-Link.is at c.requires.room in
    omega (arith, room, length-text_bytes c.in-Link.permissions c.in-Link.text.now)

pub returns-in-Link : goal.returns-in-Link
returns-in-Link c =
    rw c.in-Link.is (written_to (omega (arith, length-text_bytes c.in-Link.permissions c.in-Link.text.now)) (writes_both c.put_u16.ensures c.put_bytes.ensures))
