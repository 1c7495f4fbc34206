use Rattle.std.proofs.Common.{◌≡◌, length, ap, arith}
use Rattle.model.specs.declared.attributes.Permissions.{Permissions}
use Rattle.model.specs.declared.limits.TheConstants.{LINK_MODE}
use Rattle.layout.proofs.RecordLengths.{length-text_bytes}
use Rattle.calls.proofs.made.OwnedObject.as_new.Goals as goal

pub returns-in-Link-clause-short : goal.returns-in-Link-clause-short
returns-in-Link-clause-short c =
    let text = c.in-Link.text in
    let same : length c.deref.result.now ≡ length text.bytes.items = ap length c.deref.ensures.value in
    let short = text.said.short in
    let permissions : Permissions = record { mode = LINK_MODE; owner = c.in-Link.owner; group = c.in-Link.group } in
    let long = length-text_bytes permissions c.deref.result.now in
    omega (arith, same, short, long)
