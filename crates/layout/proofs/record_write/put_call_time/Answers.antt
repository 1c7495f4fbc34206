use Rattle.std.proofs.Common.{arith}
use Rattle.layout.proofs.RecordLengths.{length-time}
use Rattle.layout.proofs.WritingLaws.{written_to}
use Rattle.layout.proofs.record_write.put_call_time.Goals as goal

pub put_time-requires : goal.put_time-requires
put_time-requires c =
    let room = rw c.in-Some.is at c.requires in
    omega (arith, room, length-time c.in-Some.time)

pub returns-in-Some : goal.returns-in-Some
returns-in-Some c = rw c.in-Some.is (written_to (omega (arith, length-time c.in-Some.time)) c.put_time.ensures)
