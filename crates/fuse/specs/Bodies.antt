-- What stands behind a request's head: the fields of each opcode, in their order, and what they
-- ask. A field that an operation leaves out may have any value, and a bit of flags that no
-- operation tells of may be set or not: what pads and what a lock is for, which a kernel fills as
-- it likes, and flags that tell a file system nothing. So several bodies may ask the same.
use Rattle.std.specs.Prelude.{ℕ, ◌*◌, List, ◌==◌}
use Rattle.layout.specs.Format.{Format, num, ◌▸◌}
use Rattle.fuse.specs.Grammar.{nothing, counting, Grammar, saying, saying_first, choose}
use Rattle.fuse.specs.AttributeChanges.{TargetsFields, TimesFields, RightsFields, targets_fields, times_fields, rights_fields, changes_of}
use Rattle.fuse.specs.Flags.{is_set, given}
use Rattle.fuse.specs.Forgets.{all_forgets}
use Rattle.fuse.specs.Names.{ended}
use Rattle.fuse.specs.Operation.{OperationValue, lookup, forget, batch_forget, get_attributes, set_attributes, read_link, symbolic_link, make_node, make_directory, unlink, remove_directory, rename, link, open_file, read, write, stat_file_system, release, sync, flush, init, open_directory, read_directory, read_directory_plus, release_directory, sync_directory, access, create, interrupt, seek, destroy, retrieved, other}
use Rattle.fuse.specs.declared.opcode.TheConstants.{LOOKUP, FORGET, GETATTR, SETATTR, READLINK, SYMLINK, MKNOD, MKDIR, UNLINK, RMDIR, RENAME, LINK, OPEN, READ, WRITE, STATFS, RELEASE, FSYNC, FLUSH, INIT, OPENDIR, READDIR, RELEASEDIR, FSYNCDIR, ACCESS, CREATE, INTERRUPT, DESTROY, NOTIFY_REPLY, BATCH_FORGET, READDIRPLUS, RENAME2, LSEEK, GETATTR_FH, FSYNC_FDATASYNC}

-- name
unfoldable pub lookup_body : Grammar OperationValue
lookup_body = saying ended (λ name. lookup name)

-- how many times
unfoldable pub forget_body : Grammar OperationValue
forget_body = saying (num 8) (λ lookups. forget lookups)

-- how many nodes, four bytes of padding, and sixteen bytes for each node
abbrev pub forgets_fields : Format ((ℕ × ℕ) × List ℕ)
forgets_fields = counting (num 4 ▸ num 4) (λ v. 16 * v.0)

unfoldable pub batch_forget_body : Grammar OperationValue
batch_forget_body =
    saying forgets_fields (λ ((count, padding), bytes). batch_forget (all_forgets bytes))

-- flags, four bytes of padding, handle
abbrev pub get_attributes_fields : Format (ℕ × (ℕ × ℕ))
get_attributes_fields = num 4 ▸ num 4 ▸ num 8

unfoldable pub get_attributes_body : Grammar OperationValue
get_attributes_body =
    saying get_attributes_fields
    (λ (flags, (padding, handle)). get_attributes (given flags GETATTR_FH handle))

abbrev pub set_attributes_fields : Format (TargetsFields × (TimesFields × RightsFields))
set_attributes_fields = targets_fields ▸ times_fields ▸ rights_fields

unfoldable pub set_attributes_body : Grammar OperationValue
set_attributes_body =
    saying set_attributes_fields
    (λ (targets, (times, rights)). set_attributes (changes_of targets times rights))

unfoldable pub read_link_body : Grammar OperationValue
read_link_body = saying nothing (λ v. read_link)

-- name, text
unfoldable pub symbolic_link_body : Grammar OperationValue
symbolic_link_body = saying (ended ▸ ended) (λ (name, text). symbolic_link name text)

-- mode, device, mask, four bytes of padding, name
abbrev pub make_node_fields : Format (ℕ × (ℕ × (ℕ × (ℕ × List ℕ))))
make_node_fields = num 4 ▸ num 4 ▸ num 4 ▸ num 4 ▸ ended

unfoldable pub make_node_body : Grammar OperationValue
make_node_body =
    saying make_node_fields
    (λ (mode, (device, (umask, (padding, name)))). make_node name mode device umask)

-- mode, mask, name
abbrev pub make_directory_fields : Format (ℕ × (ℕ × List ℕ))
make_directory_fields = num 4 ▸ num 4 ▸ ended

unfoldable pub make_directory_body : Grammar OperationValue
make_directory_body =
    saying make_directory_fields (λ (mode, (umask, name)). make_directory name mode umask)

-- name
unfoldable pub unlink_body : Grammar OperationValue
unlink_body = saying ended (λ name. unlink name)

-- name
unfoldable pub remove_directory_body : Grammar OperationValue
remove_directory_body = saying ended (λ name. remove_directory name)

-- new directory, name, new name
abbrev pub rename_fields : Format (ℕ × (List ℕ × List ℕ))
rename_fields = num 8 ▸ ended ▸ ended

unfoldable pub rename_body : Grammar OperationValue
rename_body =
    saying rename_fields (λ (new_parent, (name, new_name)). rename name new_parent new_name 0)

-- new directory, flags, four bytes of padding, name, new name
abbrev pub rename_by_flags_fields : Format (ℕ × (ℕ × (ℕ × (List ℕ × List ℕ))))
rename_by_flags_fields = num 8 ▸ num 4 ▸ num 4 ▸ ended ▸ ended

unfoldable pub rename_by_flags_body : Grammar OperationValue
rename_by_flags_body =
    saying rename_by_flags_fields
    (λ (new_parent, (flags, (padding, (name, new_name)))). rename name new_parent new_name flags)

-- node, name
abbrev pub link_fields : Format (ℕ × List ℕ)
link_fields = num 8 ▸ ended

unfoldable pub link_body : Grammar OperationValue
link_body = saying link_fields (λ (node, name). link name node)

-- flags, flags of the protocol's own
abbrev pub open_fields : Format (ℕ × ℕ)
open_fields = num 4 ▸ num 4

unfoldable pub open_body : Grammar OperationValue
open_body = saying open_fields (λ (flags, open_flags). open_file flags open_flags)

-- handle, offset, size, flags of the transfer, the lock's owner, flags of the file, and four bytes
-- of padding
abbrev pub TransferFields : Type 0
TransferFields = ℕ × (ℕ × (ℕ × (ℕ × (ℕ × (ℕ × ℕ)))))

abbrev pub transfer_fields : Format TransferFields
transfer_fields = num 8 ▸ num 8 ▸ num 4 ▸ num 4 ▸ num 8 ▸ num 4 ▸ num 4

unfoldable pub read_body : Grammar OperationValue
read_body =
    saying transfer_fields
    (λ (handle, (offset, (size, (read_flags, (lock_owner, (flags, padding)))))).
    read handle offset size read_flags flags)

-- and so many bytes as the size says
abbrev pub write_fields : Format (TransferFields × List ℕ)
write_fields = counting transfer_fields (λ v. v.1.1.0)

unfoldable pub write_body : Grammar OperationValue
write_body =
    saying write_fields
    (λ ((handle, (offset, (size, (write_flags, (lock_owner, (flags, padding)))))), bytes).
    write handle offset bytes write_flags flags)

unfoldable pub stat_file_system_body : Grammar OperationValue
stat_file_system_body = saying nothing (λ v. stat_file_system)

-- handle, flags, flags of the release, the lock's owner
abbrev pub release_fields : Format (ℕ × (ℕ × (ℕ × ℕ)))
release_fields = num 8 ▸ num 4 ▸ num 4 ▸ num 8

unfoldable pub release_body : Grammar OperationValue
release_body =
    saying release_fields
    (λ (handle, (flags, (release_flags, lock_owner))). release handle flags release_flags)

-- handle, flags, four bytes of padding
abbrev pub sync_fields : Format (ℕ × (ℕ × ℕ))
sync_fields = num 8 ▸ num 4 ▸ num 4

unfoldable pub sync_body : Grammar OperationValue
sync_body =
    saying sync_fields (λ (handle, (flags, padding)). sync handle (is_set flags FSYNC_FDATASYNC))

-- handle, four unused bytes, four bytes of padding, the lock's owner
unfoldable pub flush_body : Grammar OperationValue
flush_body =
    saying release_fields (λ (handle, (unused, (padding, lock_owner))). flush handle)

-- major and minor version, bytes read ahead, flags; newer kernels have more behind them
abbrev pub init_fields : Format (ℕ × (ℕ × (ℕ × ℕ)))
init_fields = num 4 ▸ num 4 ▸ num 4 ▸ num 4

unfoldable pub init_body : Grammar OperationValue
init_body =
    saying_first init_fields
    (λ (major, (minor, (max_readahead, flags))). init major minor max_readahead flags)

unfoldable pub open_directory_body : Grammar OperationValue
open_directory_body =
    saying open_fields (λ (flags, open_flags). open_directory flags open_flags)

unfoldable pub read_directory_body : Grammar OperationValue
read_directory_body =
    saying transfer_fields (λ (handle, (offset, (size, rest))). read_directory handle offset size)

unfoldable pub read_directory_plus_body : Grammar OperationValue
read_directory_plus_body =
    saying transfer_fields
    (λ (handle, (offset, (size, rest))). read_directory_plus handle offset size)

unfoldable pub release_directory_body : Grammar OperationValue
release_directory_body = saying release_fields (λ (handle, rest). release_directory handle)

unfoldable pub sync_directory_body : Grammar OperationValue
sync_directory_body =
    saying sync_fields
    (λ (handle, (flags, padding)). sync_directory handle (is_set flags FSYNC_FDATASYNC))

-- mask, four bytes of padding
unfoldable pub access_body : Grammar OperationValue
access_body = saying (num 4 ▸ num 4) (λ (mask, padding). access mask)

-- flags, mode, mask, flags of the protocol's own, name
unfoldable pub create_body : Grammar OperationValue
create_body =
    saying make_node_fields
    (λ (flags, (mode, (umask, (open_flags, name)))). create name mode umask flags open_flags)

-- the request's own number
unfoldable pub interrupt_body : Grammar OperationValue
interrupt_body = saying (num 8) (λ unique. interrupt unique)

-- handle, offset, whence, four bytes of padding
abbrev pub seek_fields : Format (ℕ × (ℕ × (ℕ × ℕ)))
seek_fields = num 8 ▸ num 8 ▸ num 4 ▸ num 4

unfoldable pub seek_body : Grammar OperationValue
seek_body =
    saying seek_fields (λ (handle, (offset, (whence, padding))). seek handle offset whence)

unfoldable pub destroy_body : Grammar OperationValue
destroy_body = saying nothing (λ v. destroy)

-- any bytes: what was asked for, which nobody looks at
unfoldable pub retrieved_body : Grammar OperationValue
retrieved_body = saying_first nothing (λ v. retrieved)

-- any bytes
unfoldable pub other_body : ℕ → Grammar OperationValue
other_body opcode = saying_first nothing (λ v. other opcode)

-- what stands behind the head with this opcode
unfoldable pub body : ℕ → Grammar OperationValue
body opcode =
    choose (opcode == LOOKUP) lookup_body (
    choose (opcode == FORGET) forget_body (
    choose (opcode == GETATTR) get_attributes_body (
    choose (opcode == SETATTR) set_attributes_body (
    choose (opcode == READLINK) read_link_body (
    choose (opcode == SYMLINK) symbolic_link_body (
    choose (opcode == MKNOD) make_node_body (
    choose (opcode == MKDIR) make_directory_body (
    choose (opcode == UNLINK) unlink_body (
    choose (opcode == RMDIR) remove_directory_body (
    choose (opcode == RENAME) rename_body (
    choose (opcode == LINK) link_body (
    choose (opcode == OPEN) open_body (
    choose (opcode == READ) read_body (
    choose (opcode == WRITE) write_body (
    choose (opcode == STATFS) stat_file_system_body (
    choose (opcode == RELEASE) release_body (
    choose (opcode == FSYNC) sync_body (
    choose (opcode == FLUSH) flush_body (
    choose (opcode == INIT) init_body (
    choose (opcode == OPENDIR) open_directory_body (
    choose (opcode == READDIR) read_directory_body (
    choose (opcode == RELEASEDIR) release_directory_body (
    choose (opcode == FSYNCDIR) sync_directory_body (
    choose (opcode == ACCESS) access_body (
    choose (opcode == CREATE) create_body (
    choose (opcode == INTERRUPT) interrupt_body (
    choose (opcode == DESTROY) destroy_body (
    choose (opcode == NOTIFY_REPLY) retrieved_body (
    choose (opcode == BATCH_FORGET) batch_forget_body (
    choose (opcode == READDIRPLUS) read_directory_plus_body (
    choose (opcode == RENAME2) rename_by_flags_body (
    choose (opcode == LSEEK) seek_body (
    other_body opcode)))))))))))))))))))))))))))))))))
