use Rattle.std.proofs.Common.{arith}
use Rattle.layout.proofs.RecordLengths.{fields-link, fields-remove_name, fields-rename, fields-write, fields-truncate, fields-set_file}
use Rattle.layout.proofs.record.Edit.write_fields.Goals as goal

pub write_create-requires-clause-room : goal.write_create-requires-clause-room
write_create-requires-clause-room c = rw c.in-Create.is at c.requires.room

pub write_link-requires-clause-room : goal.write_link-requires-clause-room
write_link-requires-clause-room c =
    let room = rw c.in-Link.is at c.requires.room in
    omega (arith, room, fields-link c.args.has_attributes c.in-Link.number c.in-Link.parent c.in-Link.name.now)

pub write_remove_name-requires-clause-room : goal.write_remove_name-requires-clause-room
write_remove_name-requires-clause-room c =
    let room = rw c.in-RemoveName.is at c.requires.room in
    omega (arith, room, fields-remove_name c.args.has_attributes c.in-RemoveName.parent c.in-RemoveName.name.now)

pub write_rename-requires-clause-room : goal.write_rename-requires-clause-room
write_rename-requires-clause-room c =
    let room = rw c.in-Rename.is at c.requires.room in
    omega (arith, room, fields-rename c.args.has_attributes c.in-Rename.parent c.in-Rename.name.now c.in-Rename.new_parent c.in-Rename.new_name.now)

pub write_write-requires-clause-room : goal.write_write-requires-clause-room
write_write-requires-clause-room c =
    let room = rw c.in-Write.is at c.requires.room in
    omega (arith, room, fields-write c.args.has_attributes c.in-Write.number c.in-Write.offset c.in-Write.bytes.now)

pub write_truncate-requires : goal.write_truncate-requires
write_truncate-requires c =
    let room = rw c.in-Truncate.is at c.requires.room in
    omega (arith, room, fields-truncate c.args.has_attributes c.in-Truncate.number c.in-Truncate.size)

pub write_change_attributes-requires : goal.write_change_attributes-requires
write_change_attributes-requires c = rw c.in-ChangeAttributes.is at c.requires.room

pub write_set_file-requires : goal.write_set_file-requires
write_set_file-requires c =
    let room = rw c.in-SetFile.is at c.requires.room in
    omega (arith, room, fields-set_file c.args.has_attributes c.in-SetFile.number c.in-SetFile.mode c.in-SetFile.size)
