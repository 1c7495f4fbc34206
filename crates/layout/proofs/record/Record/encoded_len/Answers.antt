use Rattle.std.proofs.Common.{arith}
use Rattle.layout.specs.Record.{change_of}
use Rattle.layout.proofs.RecordLengths.{length-change}
use Rattle.layout.proofs.record.Record.encoded_len.Goals as goal

pub returns : goal.returns
returns c =
    let fields = rw c.is_some.ensures at c.fields_len.ensures.value in
    omega (arith, length-change (change_of c.args.self.now), c.time_len.ensures.value, fields)
