-- Bodies of requests are exact.
use Rattle.std.proofs.Common.{ℕ, ◌==◌}
use Rattle.layout.specs.Format.{num, ◌▸◌}
use Rattle.layout.proofs.Formats.{IsExact, num_exact, then_exact}
use Rattle.fuse.proofs.Grammars.{nothing_exact, counting_exact, IsExactGrammar, saying_exact, saying_first_exact, choose_exact}
use Rattle.fuse.specs.AttributeChanges.{targets_fields, times_fields, rights_fields}
use Rattle.fuse.specs.Bodies.{forgets_fields, get_attributes_fields, set_attributes_fields, make_node_fields, make_directory_fields, rename_fields, rename_by_flags_fields, link_fields, transfer_fields, release_fields, sync_fields, init_fields, seek_fields, lookup_body, forget_body, get_attributes_body, set_attributes_body, read_link_body, symbolic_link_body, make_node_body, make_directory_body, unlink_body, remove_directory_body, rename_body, link_body, open_body, read_body, write_body, stat_file_system_body, release_body, sync_body, flush_body, init_body, open_directory_body, read_directory_body, release_directory_body, sync_directory_body, access_body, create_body, interrupt_body, destroy_body, batch_forget_body, read_directory_plus_body, rename_by_flags_body, seek_body, retrieved_body, other_body, body}
use Rattle.fuse.specs.Operation.{other}
use Rattle.fuse.specs.declared.opcode.TheConstants.{LOOKUP, FORGET, GETATTR, SETATTR, READLINK, SYMLINK, MKNOD, MKDIR, UNLINK, RMDIR, RENAME, LINK, OPEN, READ, WRITE, STATFS, RELEASE, FSYNC, FLUSH, INIT, OPENDIR, READDIR, RELEASEDIR, FSYNCDIR, ACCESS, CREATE, INTERRUPT, DESTROY, NOTIFY_REPLY, BATCH_FORGET, READDIRPLUS, RENAME2, LSEEK}
use Rattle.fuse.proofs.NameLaws.{ended_exact}

two : (a b : ℕ) → IsExact (num a ▸ num b)
two a b = then_exact (num_exact a) (num_exact b)

forgets_exact : IsExact forgets_fields
forgets_exact = counting_exact (two 4 4) _

get_attributes_exact : IsExact get_attributes_fields
get_attributes_exact = then_exact (num_exact 4) (two 4 8)

targets_exact : IsExact targets_fields
targets_exact = then_exact (num_exact 4) (then_exact (num_exact 4) (then_exact (num_exact 8) (two 8 8)))

times_exact : IsExact times_fields
times_exact = then_exact (num_exact 8) (then_exact (num_exact 8) (then_exact (num_exact 8) (then_exact (num_exact 4) (two 4 4))))

rights_exact : IsExact rights_fields
rights_exact = then_exact (num_exact 4) (then_exact (num_exact 4) (then_exact (num_exact 4) (two 4 4)))

set_attributes_exact : IsExact set_attributes_fields
set_attributes_exact = then_exact targets_exact (then_exact times_exact rights_exact)

make_node_exact : IsExact make_node_fields
make_node_exact = then_exact (num_exact 4) (then_exact (num_exact 4) (then_exact (num_exact 4) (then_exact (num_exact 4) ended_exact)))

make_directory_exact : IsExact make_directory_fields
make_directory_exact = then_exact (num_exact 4) (then_exact (num_exact 4) ended_exact)

rename_exact : IsExact rename_fields
rename_exact = then_exact (num_exact 8) (then_exact ended_exact ended_exact)

rename_by_flags_exact : IsExact rename_by_flags_fields
rename_by_flags_exact = then_exact (num_exact 8) (then_exact (num_exact 4) (then_exact (num_exact 4) (then_exact ended_exact ended_exact)))

link_exact : IsExact link_fields
link_exact = then_exact (num_exact 8) ended_exact

transfer_exact : IsExact transfer_fields
transfer_exact = then_exact (num_exact 8) (then_exact (num_exact 8) (then_exact (num_exact 4) (then_exact (num_exact 4) (then_exact (num_exact 8) (two 4 4)))))

release_exact : IsExact release_fields
release_exact = then_exact (num_exact 8) (then_exact (num_exact 4) (two 4 8))

sync_exact : IsExact sync_fields
sync_exact = then_exact (num_exact 8) (two 4 4)

init_exact : IsExact init_fields
init_exact = then_exact (num_exact 4) (then_exact (num_exact 4) (two 4 4))

seek_exact : IsExact seek_fields
seek_exact = then_exact (num_exact 8) (then_exact (num_exact 8) (two 4 4))

other_exact : (opcode : ℕ) → IsExactGrammar (other_body opcode)
unfolding other_body
other_exact opcode = saying_first_exact nothing_exact (λ v. other opcode)

lookup_is_exact : IsExactGrammar lookup_body
unfolding lookup_body
lookup_is_exact = saying_exact ended_exact _

forget_is_exact : IsExactGrammar forget_body
unfolding forget_body
forget_is_exact = saying_exact (num_exact 8) _

get_attributes_is_exact : IsExactGrammar get_attributes_body
unfolding get_attributes_body
get_attributes_is_exact = saying_exact get_attributes_exact _

set_attributes_is_exact : IsExactGrammar set_attributes_body
unfolding set_attributes_body
set_attributes_is_exact = saying_exact set_attributes_exact _

read_link_is_exact : IsExactGrammar read_link_body
unfolding read_link_body
read_link_is_exact = saying_exact nothing_exact _

symbolic_link_is_exact : IsExactGrammar symbolic_link_body
unfolding symbolic_link_body
symbolic_link_is_exact = saying_exact (then_exact ended_exact ended_exact) _

make_node_is_exact : IsExactGrammar make_node_body
unfolding make_node_body
make_node_is_exact = saying_exact make_node_exact _

make_directory_is_exact : IsExactGrammar make_directory_body
unfolding make_directory_body
make_directory_is_exact = saying_exact make_directory_exact _

unlink_is_exact : IsExactGrammar unlink_body
unfolding unlink_body
unlink_is_exact = saying_exact ended_exact _

remove_directory_is_exact : IsExactGrammar remove_directory_body
unfolding remove_directory_body
remove_directory_is_exact = saying_exact ended_exact _

rename_is_exact : IsExactGrammar rename_body
unfolding rename_body
rename_is_exact = saying_exact rename_exact _

link_is_exact : IsExactGrammar link_body
unfolding link_body
link_is_exact = saying_exact link_exact _

open_is_exact : IsExactGrammar open_body
unfolding open_body
open_is_exact = saying_exact (two 4 4) _

read_is_exact : IsExactGrammar read_body
unfolding read_body
read_is_exact = saying_exact transfer_exact _

write_is_exact : IsExactGrammar write_body
unfolding write_body
write_is_exact = saying_exact (counting_exact transfer_exact _) _

stat_file_system_is_exact : IsExactGrammar stat_file_system_body
unfolding stat_file_system_body
stat_file_system_is_exact = saying_exact nothing_exact _

release_is_exact : IsExactGrammar release_body
unfolding release_body
release_is_exact = saying_exact release_exact _

sync_is_exact : IsExactGrammar sync_body
unfolding sync_body
sync_is_exact = saying_exact sync_exact _

flush_is_exact : IsExactGrammar flush_body
unfolding flush_body
flush_is_exact = saying_exact release_exact _

init_is_exact : IsExactGrammar init_body
unfolding init_body
init_is_exact = saying_first_exact init_exact _

open_directory_is_exact : IsExactGrammar open_directory_body
unfolding open_directory_body
open_directory_is_exact = saying_exact (two 4 4) _

read_directory_is_exact : IsExactGrammar read_directory_body
unfolding read_directory_body
read_directory_is_exact = saying_exact transfer_exact _

release_directory_is_exact : IsExactGrammar release_directory_body
unfolding release_directory_body
release_directory_is_exact = saying_exact release_exact _

sync_directory_is_exact : IsExactGrammar sync_directory_body
unfolding sync_directory_body
sync_directory_is_exact = saying_exact sync_exact _

access_is_exact : IsExactGrammar access_body
unfolding access_body
access_is_exact = saying_exact (two 4 4) _

create_is_exact : IsExactGrammar create_body
unfolding create_body
create_is_exact = saying_exact make_node_exact _

interrupt_is_exact : IsExactGrammar interrupt_body
unfolding interrupt_body
interrupt_is_exact = saying_exact (num_exact 8) _

destroy_is_exact : IsExactGrammar destroy_body
unfolding destroy_body
destroy_is_exact = saying_exact nothing_exact _

retrieved_is_exact : IsExactGrammar retrieved_body
unfolding retrieved_body
retrieved_is_exact = saying_first_exact nothing_exact _

batch_forget_is_exact : IsExactGrammar batch_forget_body
unfolding batch_forget_body
batch_forget_is_exact = saying_exact forgets_exact _

read_directory_plus_is_exact : IsExactGrammar read_directory_plus_body
unfolding read_directory_plus_body
read_directory_plus_is_exact = saying_exact transfer_exact _

rename_by_flags_is_exact : IsExactGrammar rename_by_flags_body
unfolding rename_by_flags_body
rename_by_flags_is_exact = saying_exact rename_by_flags_exact _

seek_is_exact : IsExactGrammar seek_body
unfolding seek_body
seek_is_exact = saying_exact seek_exact _

pub body_exact : (opcode : ℕ) → IsExactGrammar (body opcode)
unfolding body
body_exact opcode =
    choose_exact (opcode == LOOKUP) lookup_is_exact (
    choose_exact (opcode == FORGET) forget_is_exact (
    choose_exact (opcode == GETATTR) get_attributes_is_exact (
    choose_exact (opcode == SETATTR) set_attributes_is_exact (
    choose_exact (opcode == READLINK) read_link_is_exact (
    choose_exact (opcode == SYMLINK) symbolic_link_is_exact (
    choose_exact (opcode == MKNOD) make_node_is_exact (
    choose_exact (opcode == MKDIR) make_directory_is_exact (
    choose_exact (opcode == UNLINK) unlink_is_exact (
    choose_exact (opcode == RMDIR) remove_directory_is_exact (
    choose_exact (opcode == RENAME) rename_is_exact (
    choose_exact (opcode == LINK) link_is_exact (
    choose_exact (opcode == OPEN) open_is_exact (
    choose_exact (opcode == READ) read_is_exact (
    choose_exact (opcode == WRITE) write_is_exact (
    choose_exact (opcode == STATFS) stat_file_system_is_exact (
    choose_exact (opcode == RELEASE) release_is_exact (
    choose_exact (opcode == FSYNC) sync_is_exact (
    choose_exact (opcode == FLUSH) flush_is_exact (
    choose_exact (opcode == INIT) init_is_exact (
    choose_exact (opcode == OPENDIR) open_directory_is_exact (
    choose_exact (opcode == READDIR) read_directory_is_exact (
    choose_exact (opcode == RELEASEDIR) release_directory_is_exact (
    choose_exact (opcode == FSYNCDIR) sync_directory_is_exact (
    choose_exact (opcode == ACCESS) access_is_exact (
    choose_exact (opcode == CREATE) create_is_exact (
    choose_exact (opcode == INTERRUPT) interrupt_is_exact (
    choose_exact (opcode == DESTROY) destroy_is_exact (
    choose_exact (opcode == NOTIFY_REPLY) retrieved_is_exact (
    choose_exact (opcode == BATCH_FORGET) batch_forget_is_exact (
    choose_exact (opcode == READDIRPLUS) read_directory_plus_is_exact (
    choose_exact (opcode == RENAME2) rename_by_flags_is_exact (
    choose_exact (opcode == LSEEK) seek_is_exact (
    other_exact opcode)))))))))))))))))))))))))))))))))
