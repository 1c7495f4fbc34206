use Rattle.std.proofs.Common.{arith}
use Rattle.layout.specs.Record.{made_of, permissions_of_made}
use Rattle.layout.proofs.RecordLengths.{fields-create, fields-link, fields-remove_name, fields-rename, fields-write, fields-truncate, fields-change_attributes, fields-set_file}
use Rattle.layout.proofs.record.Edit.fields_len.Goals as goal

pub overflow_add-result-in-Create : goal.overflow_add-result-in-Create
overflow_add-result-in-Create c =
    let limits = rw c.in-Create.is at c.requires in
    omega (arith, limits.1.short, c.permissions_len.ensures.short, c.count_of.ensures)

pub returns-in-Create-clause-value : goal.returns-in-Create-clause-value
returns-in-Create-clause-value c =
    let made = made_of c.in-Create.object in
    let long = fields-create c.args.has_attributes c.in-Create.number c.in-Create.parent made c.in-Create.name.now in
    rw c.in-Create.is (omega (arith, long, c.permissions_len.ensures.value (permissions_of_made made), c.count_of.ensures, c.object_len.ensures.value))

pub returns-in-Link-clause-value : goal.returns-in-Link-clause-value
returns-in-Link-clause-value c = rw c.in-Link.is (omega (arith, fields-link c.args.has_attributes c.in-Link.number c.in-Link.parent c.in-Link.name.now))

pub returns-in-RemoveName-clause-value : goal.returns-in-RemoveName-clause-value
returns-in-RemoveName-clause-value c = rw c.in-RemoveName.is (omega (arith, fields-remove_name c.args.has_attributes c.in-RemoveName.parent c.in-RemoveName.name.now))

pub returns-in-Rename-clause-value : goal.returns-in-Rename-clause-value
returns-in-Rename-clause-value c = rw c.in-Rename.is (omega (arith, fields-rename c.args.has_attributes c.in-Rename.parent c.in-Rename.name.now c.in-Rename.new_parent c.in-Rename.new_name.now))

pub returns-in-Write-clause-value : goal.returns-in-Write-clause-value
returns-in-Write-clause-value c = rw c.in-Write.is (omega (arith, fields-write c.args.has_attributes c.in-Write.number c.in-Write.offset c.in-Write.bytes.now))

pub returns-in-Truncate-clause-value : goal.returns-in-Truncate-clause-value
returns-in-Truncate-clause-value c = rw c.in-Truncate.is (omega (arith, fields-truncate c.args.has_attributes c.in-Truncate.number c.in-Truncate.size))

pub returns-in-ChangeAttributes-clause-value : goal.returns-in-ChangeAttributes-clause-value
returns-in-ChangeAttributes-clause-value c =
    let permissions = c.in-ChangeAttributes.permissions in
    let modified = c.in-ChangeAttributes.modified in
    let long = fields-change_attributes c.args.has_attributes c.in-ChangeAttributes.number permissions modified in
    rw c.in-ChangeAttributes.is (omega (arith, long, c.permissions_len-in-ChangeAttributes.ensures.value permissions, c.modified_len.ensures.value modified))

pub returns-in-SetFile-clause-value : goal.returns-in-SetFile-clause-value
returns-in-SetFile-clause-value c = rw c.in-SetFile.is (omega (arith, fields-set_file c.args.has_attributes c.in-SetFile.number c.in-SetFile.mode c.in-SetFile.size))
