use Rattle.std.proofs.Common.{◌+◌, arith}
use Rattle.layout.proofs.RecordLengths.{fields-change_attributes}
use Rattle.layout.proofs.WritingLaws.{writes_both, written_to}
use Rattle.layout.proofs.record_write.write_change_attributes.Goals as goal

pub returns : goal.returns
returns c =
    let next = c.args.at + 4 + c.permissions_len.result in
    writes_both c.put_number.ensures
    (writes_both (written_to {end = next} (omega (arith, c.permissions_len.ensures.value c.args.permissions)) c.put_permissions.ensures)
    (written_to (omega (arith, c.modified_len.ensures.value c.args.modified)) c.put_modified.ensures))

pub put_number-requires : goal.put_number-requires
put_number-requires c = omega (arith, c.requires, fields-change_attributes c.args.has_attributes c.args.number c.args.permissions c.args.modified)
