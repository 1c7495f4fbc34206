use Rattle.std.proofs.Common.{◌≡◌, length, ap, arith}
use Rattle.layout.specs.Record.{made_of, permissions_of_made}
use Rattle.layout.proofs.RecordLengths.{few_permission_bytes, fields-create}
use Rattle.calls.proofs.made.Creation.edit.Goals as goal

pub returns-clause-short : goal.returns-clause-short
returns-clause-short c = λ has_attributes.
    let m = c.args.self.now in
    let name = c.deref.result.now in
    let made = made_of c.as_new-object.result in
    let same : length name ≡ length m.name.bytes.items = ap length c.deref.ensures.value in
    let short = m.name.named.short in
    let more = c.as_new-object.ensures.short in
    let few = few_permission_bytes has_attributes (permissions_of_made made) in
    let long = fields-create has_attributes m.number m.parent made name in
    omega (arith, same, short, few, long, more)
