use Rattle.std.proofs.Common.{◌≡◌, ◌≤◌, Option, None, Some, Result, Ok, IfOk, IfSome, ap, sym, subst, ◌∙◌}
use Rattle.std.proofs.lemmas.Bool.{both_ways}
use Rattle.buffers.specs.declared.error.BlockError.{BlockError}
use Rattle.dirs.specs.Room.{piece_count}
use Rattle.dirs.specs.declared.edit.Edit.{Edit}
use Rattle.entries.specs.Known.{Knows}
use Rattle.inode.specs.Files.{file_block}
use Rattle.inode.specs.declared.object.Object.{Object}
use Rattle.inofile.specs.Objects.{IsObjectOrNone}
use Rattle.inofile.specs.Settled.{content_of_object}
use Rattle.records.specs.Entering.{IsDirectoryObject, pieces_of}
use Rattle.records.specs.Naming.{EditsNames}
use Rattle.inofile.proofs.DetailLaws.{by_size}
use Rattle.records.proofs.EnterLaws.{directory_stands, edits_directory, found_directory, is_directory_object, no_edit}
use Rattle.paths.proofs.LookingUp.{same_error}
use Rattle.records.proofs.NamingLaws.{known_anew}
use Rattle.paths.proofs.Objects.{same_object}
use Rattle.records.proofs.directory_names.edit_object.Goals as goal

pub returns-then-not-is_directory-clause-same : goal.returns-then-not-is_directory-clause-same
returns-then-not-is_directory-clause-same g c = same_object c.args.object.now

pub returns-then-not-is_directory-clause-edits : goal.returns-then-not-is_directory-clause-edits
returns-then-not-is_directory-clause-edits g c = λ detail disk settled found shows stands accepts.
    both_ways c.is_directory.result c.if-not-is_directory.true
    (c.is_directory.ensures.1 (is_directory_object detail disk c.args.limits.inodes settled c.args.object.now found stands (found_directory found accepts.attributes accepts.names accepts.is)))

pub returns-in_default-clause-same : goal.returns-in_default-clause-same
returns-in_default-clause-same g c = absurd (subst IsDirectoryObject (sym c.take.ensures.value ∙ c.in_default.is) (c.is_directory.ensures.0 c.if-not-is_directory.false))

pub returns-in_default-clause-edits : goal.returns-in_default-clause-edits
returns-in_default-clause-edits g c = absurd (subst IsDirectoryObject (sym c.take.ensures.value ∙ c.in_default.is) (c.is_directory.ensures.0 c.if-not-is_directory.false))

pub returns-in_err-edit-clause-knows : goal.returns-in_err-edit-clause-knows
returns-in_err-edit-clause-knows g c = λ disk.
    known_anew c.args.limits.inodes disk c.args.object.now c.in-Some.directory (record { status = c.in-Some.directory.status; file = c.edit_file-edit.new.file; known = c.replace-known.new.dest })
    (sym c.take.ensures.value ∙ c.in-Some.is)
    (subst (Knows c.args.limits.inodes (file_block disk c.edit_file-edit.new.file)) (sym c.replace-known.ensures.after) (c.new.ensures c.args.limits.inodes (file_block disk c.edit_file-edit.new.file)))

pub returns-in_default-2-clause-knows : goal.returns-in_default-2-clause-knows
returns-in_default-2-clause-knows g c = λ disk.
    known_anew c.args.limits.inodes disk c.args.object.now c.in-Some.directory (record { status = c.in-Some.directory.status; file = c.edit_file-edit.new.file; known = c.replace-known.new.dest })
    (sym c.take.ensures.value ∙ c.in-Some.is)
    (subst (Knows c.args.limits.inodes (file_block disk c.edit_file-edit.new.file)) (sym c.replace-known.ensures.after) (c.new.ensures c.args.limits.inodes (file_block disk c.edit_file-edit.new.file)))

pub returns-clause-knows : goal.returns-clause-knows
returns-clause-knows g c = λ disk.
    known_anew c.args.limits.inodes disk c.args.object.now c.in-Some.directory (record { status = c.in-Some.directory.status; file = c.edit_file-edit.new.file; known = c.replace-known.new.dest })
    (sym c.take.ensures.value ∙ c.in-Some.is)
    (subst (Knows c.args.limits.inodes (file_block disk c.edit_file-edit.new.file)) (sym c.replace-known.ensures.after) (c.new.ensures c.args.limits.inodes (file_block disk c.edit_file-edit.new.file)))

pub returns-in_err-edit-clause-damaged : goal.returns-in_err-edit-clause-damaged
returns-in_err-edit-clause-damaged g c = λ detail disk settled found shows is stands sound.
    let was : c.args.object.now ≡ Some c.in-Some.directory = sym c.take.ensures.value ∙ c.in-Some.is in
    let o = subst (λ (x : Option Object). IsObjectOrNone detail disk c.args.limits.inodes settled x found) was stands in
    let kind = subst IsDirectoryObject was (c.is_directory.ensures.0 c.if-not-is_directory.false) in
    let d = directory_stands c.in-Some.directory.status.kind c.args.limits.inodes (content_of_object disk c.in-Some.directory) found kind (by_size detail c.in-Some.directory.status.kind c.args.limits.inodes (content_of_object disk c.in-Some.directory) found o.stands) in
    let knows : Knows c.args.limits.inodes (file_block disk c.in-Some.directory.file) c.replace-known.result = subst (Knows c.args.limits.inodes (file_block disk c.in-Some.directory.file)) (sym c.replace-known.ensures.value) (o.known kind) in
    c.edit_file-edit.ensures.damaged disk d.0 shows (c.in_err-edit.was ∙ same_error c.from_residual.result _ _ c.from_residual.ensures.1 is) (d.1, knows) (λ i. sound c.in-Some.directory was kind i)

pub returns-in_default-2-clause-edits : goal.returns-in_default-2-clause-edits
returns-in_default-2-clause-edits g c = λ detail disk settled found shows stands.
    let was : c.args.object.now ≡ Some c.in-Some.directory = sym c.take.ensures.value ∙ c.in-Some.is in
    let o = subst (λ (x : Option Object). IsObjectOrNone detail disk c.args.limits.inodes settled x found) was stands in
    let kind = subst IsDirectoryObject was (c.is_directory.ensures.0 c.if-not-is_directory.false) in
    let d = directory_stands c.in-Some.directory.status.kind c.args.limits.inodes (content_of_object disk c.in-Some.directory) found kind (by_size detail c.in-Some.directory.status.kind c.args.limits.inodes (content_of_object disk c.in-Some.directory) found o.stands) in
    let knows : Knows c.args.limits.inodes (file_block disk c.in-Some.directory.file) c.replace-known.result = subst (Knows c.args.limits.inodes (file_block disk c.in-Some.directory.file)) (sym c.replace-known.ensures.value) (o.known kind) in
    let after : Object = record { status = c.in-Some.directory.status; file = c.edit_file-edit.new.file; known = c.replace-known.new.dest } in
    let told : c.edit_file-edit.result ≡ Ok None = c.in_ok-edit.was ∙ ap Ok c.in_default-2.is in
    no_edit disk c.args.limits found after c.edit_file-edit.new.known c.args.wanted.now d.0 kind d.2
    (subst (λ (r : Result (Option Edit) BlockError). IfOk r (EditsNames c.args.limits disk after.file c.edit_file-edit.new.known c.args.wanted.now d.0)) told (c.edit_file-edit.ensures.edited disk d.0 shows (d.1, knows)))

pub returns-clause-edits : goal.returns-clause-edits
returns-clause-edits g c = λ detail disk settled found shows stands.
    let was : c.args.object.now ≡ Some c.in-Some.directory = sym c.take.ensures.value ∙ c.in-Some.is in
    let o = subst (λ (x : Option Object). IsObjectOrNone detail disk c.args.limits.inodes settled x found) was stands in
    let kind = subst IsDirectoryObject was (c.is_directory.ensures.0 c.if-not-is_directory.false) in
    let d = directory_stands c.in-Some.directory.status.kind c.args.limits.inodes (content_of_object disk c.in-Some.directory) found kind (by_size detail c.in-Some.directory.status.kind c.args.limits.inodes (content_of_object disk c.in-Some.directory) found o.stands) in
    let knows : Knows c.args.limits.inodes (file_block disk c.in-Some.directory.file) c.replace-known.result = subst (Knows c.args.limits.inodes (file_block disk c.in-Some.directory.file)) (sym c.replace-known.ensures.value) (o.known kind) in
    let after : Object = record { status = c.in-Some.directory.status; file = c.edit_file-edit.new.file; known = c.replace-known.new.dest } in
    let told : c.edit_file-edit.result ≡ Ok (Some c.in-Some-2.edit) = c.in_ok-edit.was ∙ ap Ok c.in-Some-2.is in
    edits_directory disk c.args.limits found after c.edit_file-edit.new.known c.args.wanted.now d.0 kind d.2 c.in-Some-2.edit c.keep.new.self
    (subst (λ (r : Result (Option Edit) BlockError). IfOk r (EditsNames c.args.limits disk after.file c.edit_file-edit.new.known c.args.wanted.now d.0)) told (c.edit_file-edit.ensures.edited disk d.0 shows (d.1, knows)))
    (subst (λ (r : Result (Option Edit) BlockError). IfOk r (λ e. IfSome e (λ x. piece_count x ≤ pieces_of c.args.wanted.now))) told c.edit_file-edit.ensures.pieces)
    c.keep.ensures.changed c.keep.ensures.count c.keep.ensures.known
