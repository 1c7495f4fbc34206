use Rattle.std.proofs.Common.{◌≡◌, length, subst, ap, arith}
use Rattle.layout.specs.Record.{Change, body_of, change_bytes, stamped, write}
use Rattle.layout.proofs.RecordLengths.{few_time_bytes, length-write}
use Rattle.dispatch.specs.Preparing.{KeepsRecord}
use Rattle.dispatch.specs.declared.prepared_call.CallRecord.{CallRecord}
use Rattle.dispatch.proofs.prepared_call.CallRecord.record.Goals as goal

pub returns-in-Writes-clause-short : goal.returns-in-Writes-clause-short
returns-in-Writes-clause-short c =
    let few = (subst (λ (r : CallRecord). KeepsRecord r) c.in-Writes.is c.requires).1 in
    let long = length-write c.args.time c.in-Writes.number c.in-Writes.offset c.in-Writes.bytes.now in
    let is : length (body_of c.write_record.result) ≡ length (change_bytes (stamped c.args.time (write c.in-Writes.number c.in-Writes.offset c.in-Writes.bytes.now))) =
    ap (λ (d : Change). length (change_bytes d)) c.write_record.ensures.says in
    omega (arith, few, long, few_time_bytes c.args.time, is)
