use Rattle.std.proofs.Common.{arith, is_some}
use Rattle.layout.specs.Record.{edit_of}
use Rattle.layout.proofs.RecordLengths.{few_time_bytes, length-change}
use Rattle.model.specs.Records.{stamped}
use Rattle.calls.proofs.changed.OwnedChange.record.Goals as goal

pub returns-clause-short : goal.returns-clause-short
returns-clause-short c =
    let long = length-change (stamped c.args.time (edit_of c.edit-edit.result)) in
    omega (arith, long, few_time_bytes c.args.time, c.edit-edit.ensures.short (is_some c.args.time))
