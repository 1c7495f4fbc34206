use Rattle.std.proofs.Common.{◌+◌, arith}
use Rattle.layout.proofs.RecordLengths.{length-permissions, some_permission_bytes}
use Rattle.layout.proofs.WritingLaws.{writes_both, written_to}
use Rattle.layout.proofs.permissions.put_permissions.Goals as goal

pub put_u16-requires : goal.put_u16-requires
put_u16-requires c = omega (arith, c.requires, some_permission_bytes c.args.has_attributes c.args.permissions)

pub put_u32-requires : goal.put_u32-requires
put_u32-requires c =
    let room = rw c.if-has_attributes.true at c.requires in
    omega (arith, room, length-permissions c.args.permissions)

pub put_u32-requires-then-has_attributes : goal.put_u32-requires-then-has_attributes
put_u32-requires-then-has_attributes c =
    let room = rw c.if-has_attributes.true at c.requires in
    omega (arith, room, length-permissions c.args.permissions)

pub returns-then-has_attributes : goal.returns-then-has_attributes
returns-then-has_attributes c =
    let at = c.args.at in
    rw c.if-has_attributes.true
    (writes_both (rw c.bits.ensures.same at c.put_u16.ensures)
    (writes_both (written_to {end = at + 6} (omega arith) c.put_u32.ensures)
    (written_to (omega (arith, length-permissions c.args.permissions)) c.put_u32-then-has_attributes.ensures)))
