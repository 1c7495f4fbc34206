use Rattle.std.proofs.Common.{◌≡◌, Bool, Some, ℕ, IfOk, sym, subst, arith}
use Rattle.layout.specs.Record.{KeepsMadeLimits, made_of, permissions_of_made}
use Rattle.layout.specs.declared.inode.Inode.{Inode}
use Rattle.layout.specs.declared.record.NewObject.{NewObject}
use Rattle.model.specs.Attributes.{FitAttributes, new_attributes}
use Rattle.model.specs.Records.{node_of}
use Rattle.inofile.specs.Objects.{IsObjectIn}
use Rattle.records.proofs.new_objects.new_object.Goals as goal

-- what may be made so, of the kind that it is
made_limits : {o p : NewObject} → o ≡ p → KeepsMadeLimits (made_of o) → KeepsMadeLimits (made_of p)
made_limits same = subst (λ (x : NewObject). KeepsMadeLimits (made_of x)) same

made_fits : {o p : NewObject} {has : Bool} → o ≡ p → FitAttributes has (new_attributes (permissions_of_made (made_of o))) → FitAttributes has (new_attributes (permissions_of_made (made_of p)))
made_fits {has = has} same = subst (λ (x : NewObject). FitAttributes has (new_attributes (permissions_of_made (made_of x)))) same

pub new_directory-requires : goal.new_directory-requires
new_directory-requires g c = made_fits c.in-Directory.is c.requires.kept

pub new_file-requires : goal.new_file-requires
new_file-requires g c = made_fits c.in-File.is c.requires.kept

pub new_link-requires-clause-text : goal.new_link-requires-clause-text
new_link-requires-clause-text g c = (made_limits c.in-Link.is c.requires.limits).1

pub new_link-requires-clause-mode : goal.new_link-requires-clause-mode
new_link-requires-clause-mode g c = (made_limits c.in-Link.is c.requires.limits).0

pub new_link-requires-clause-kept : goal.new_link-requires-clause-kept
new_link-requires-clause-kept g c = made_fits c.in-Link.is c.requires.kept

pub returns-in-Directory-clause-object : goal.returns-in-Directory-clause-object
returns-in-Directory-clause-object g c = λ detail disk shows inodes settled same.
    subst (λ (o : NewObject). IsObjectIn detail disk inodes settled c.new_directory.result (Some (node_of (made_of o)))) (sym c.in-Directory.is) (c.new_directory.ensures.object detail disk inodes settled same)

pub returns-in-File-clause-object : goal.returns-in-File-clause-object
returns-in-File-clause-object g c = λ detail disk shows inodes settled same.
    subst (λ (o : NewObject). IsObjectIn detail disk inodes settled c.new_file.result (Some (node_of (made_of o)))) (sym c.in-File.is) (c.new_file.ensures.object detail disk inodes settled same)

pub returns-in-Link-clause-object : goal.returns-in-Link-clause-object
returns-in-Link-clause-object g c = λ detail disk shows.
    subst (λ (o : NewObject). IfOk c.new_link.result (λ x. (inodes : ℕ) (settled : Inode) → settled.layout ≡ c.args.layout → IsObjectIn detail disk inodes settled x (Some (node_of (made_of o))))) (sym c.in-Link.is)
    (c.new_link.ensures.object detail disk shows)

pub returns-in-Directory-clause-room : goal.returns-in-Directory-clause-room
returns-in-Directory-clause-room g c = omega (arith, c.new_directory.ensures.room)

pub returns-in-File-clause-room : goal.returns-in-File-clause-room
returns-in-File-clause-room g c = omega (arith, c.new_file.ensures.room)
