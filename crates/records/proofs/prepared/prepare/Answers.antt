use Rattle.records.proofs.Recording.{of_known}
use Rattle.records.proofs.prepared.prepare.Goals as goal

pub returns-in-Create : goal.returns-in-Create
returns-in-Create g c = rw c.in-Create.is (of_known c.prepare_create.ensures)

pub returns-in-Write : goal.returns-in-Write
returns-in-Write g c = rw c.in-Write.is (of_known c.prepare_bytes.ensures.decides)

pub returns-in-Truncate : goal.returns-in-Truncate
returns-in-Truncate g c = rw c.in-Truncate.is (of_known c.prepare_bytes-in-Truncate.ensures.decides)

pub returns-in-Link : goal.returns-in-Link
returns-in-Link g c = rw c.in-Link.is (of_known c.prepare_link.ensures)

pub returns-in-RemoveName : goal.returns-in-RemoveName
returns-in-RemoveName g c = rw c.in-RemoveName.is (of_known c.prepare_remove_name.ensures)

pub returns-in-Rename : goal.returns-in-Rename
returns-in-Rename g c = rw c.in-Rename.is c.prepare_rename.ensures

pub returns-in-SetFile : goal.returns-in-SetFile
returns-in-SetFile g c = rw c.in-SetFile.is (of_known c.prepare_bytes-in-SetFile.ensures.decides)

pub returns-in-ChangeAttributes : goal.returns-in-ChangeAttributes
returns-in-ChangeAttributes g c = rw c.in-ChangeAttributes.is (of_known c.prepare_attributes.ensures.decides)
