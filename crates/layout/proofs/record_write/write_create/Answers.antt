use Rattle.std.proofs.Common.{◌+◌, length, arith}
use Rattle.layout.specs.Record.{made_of, permissions_of_made}
use Rattle.layout.proofs.RecordLengths.{fields-create}
use Rattle.layout.proofs.WritingLaws.{writes_both, written_to}
use Rattle.layout.proofs.record_write.write_create.Goals as goal

pub returns : goal.returns
returns c =
    let at = c.args.at in
    let count = c.permissions_len.ensures.value c.permissions_of.result in
    let next = at + 9 + c.permissions_len.result in
    let text = next + 1 + length c.args.name.now in
    rw (← c.kind_of.ensures, ← c.permissions_of.ensures, c.object_len.ensures.value)
    (writes_both (writes_both c.put_number.ensures (writes_both (written_to {end = at + 8} (omega arith) c.put_number-2.ensures) (written_to {end = at + 9} (omega arith) c.put_u8.ensures)))
    (writes_both (written_to {end = next} (omega (arith, count)) c.put_permissions.ensures) (writes_both (written_to {end = text} (omega arith) c.put_name.ensures) c.put_text.ensures)))

pub put_number-requires : goal.put_number-requires
put_number-requires c = omega (arith, c.requires.room, fields-create c.args.has_attributes c.args.number c.args.parent (made_of c.args.object.now) c.args.name.now)

pub put_number-requires-2 : goal.put_number-requires-2
put_number-requires-2 c = omega (arith, c.requires.room, fields-create c.args.has_attributes c.args.number c.args.parent (made_of c.args.object.now) c.args.name.now)

pub put_u8-requires : goal.put_u8-requires
put_u8-requires c = omega (arith, c.requires.room, fields-create c.args.has_attributes c.args.number c.args.parent (made_of c.args.object.now) c.args.name.now)

pub put_name-requires-clause-room : goal.put_name-requires-clause-room
put_name-requires-clause-room c =
    let made = made_of c.args.object.now in
    let long = fields-create c.args.has_attributes c.args.number c.args.parent made c.args.name.now in
    omega (arith, c.requires.room, long, c.permissions_len.ensures.value (permissions_of_made made))
