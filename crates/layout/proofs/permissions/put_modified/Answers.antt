use Rattle.std.proofs.Common.{arith}
use Rattle.layout.proofs.RecordLengths.{length-modified}
use Rattle.layout.proofs.permissions.put_modified.Goals as goal

pub put_time-requires : goal.put_time-requires
put_time-requires c =
    let room = rw c.if-has_attributes.true at c.requires in
    omega (arith, room, length-modified c.args.time)
