use Rattle.std.proofs.Common.{rules, ◌≡◌, ◌≢◌, Option, Some, IfOk, refl, sym, ap, subst}
use Rattle.inode.proofs.BaseLaws.{same_itself}
use Rattle.inode.specs.declared.object.Object.{Object}
use Rattle.inofile.specs.Objects.{IsObjectOrNone, IsSameOrNone, StaysKnown}
use Rattle.layout.specs.declared.kind.Kind.TheVariants as kinds
use Rattle.model.specs.Volumes.{names_in}
use Rattle.paths.proofs.Objects.{of_names, blocks_of, same_known, same_object, without_names}
use Rattle.paths.proofs.lookup.find_in.Goals as goal

pub returns-in_default-clause-same : goal.returns-in_default-clause-same
returns-in_default-clause-same g c = same_object c.args.object.now

pub returns-in_default-clause-knows : goal.returns-in_default-clause-knows
returns-in_default-clause-knows g c = λ disk shows. same_known c.args.inodes disk c.args.object.now

pub returns-in_default-clause-found : goal.returns-in_default-clause-found
returns-in_default-clause-found g c = λ detail disk settled node shows stands.
    sym (ap (λ n. names_in n c.args.name.now) (subst (λ (x : Option Object). IsObjectOrNone detail disk c.args.inodes settled x node) c.in_default.is stands))

pub returns-then-ne-clause-same : goal.returns-then-ne-clause-same
returns-then-ne-clause-same g c = subst (λ (x : Option Object). IsSameOrNone x (Some c.in-Some.object)) (sym c.in-Some.is) (same_object (Some c.in-Some.object))

pub returns-then-ne-clause-knows : goal.returns-then-ne-clause-knows
returns-then-ne-clause-knows g c = λ disk shows.
    subst (λ (x : Option Object). StaysKnown c.args.inodes disk x (Some c.in-Some.object)) (sym c.in-Some.is) (same_known c.args.inodes disk (Some c.in-Some.object))

pub returns-then-ne-clause-found : goal.returns-then-ne-clause-found
returns-then-ne-clause-found g c = λ detail disk settled node shows stands.
    let o = subst (λ (x : Option Object). IsObjectOrNone detail disk c.args.inodes settled x node) c.in-Some.is stands in
    let other : c.in-Some.object.status.kind ≢ kinds.Directory = search rules in
    sym (without_names disk c.args.inodes settled c.in-Some.object node o other c.args.name.now)

pub returns-clause-same : goal.returns-clause-same
returns-clause-same g c =
    subst (λ (x : Option Object). IsSameOrNone x (Some (record { status = c.in-Some.object.status; file = c.in-Some.object.file; known = c.find.new.known }))) (sym c.in-Some.is)
    (record { status = refl; file = same_itself c.in-Some.object.file })

pub returns-clause-knows : goal.returns-clause-knows
returns-clause-knows g c = λ disk shows.
    subst (λ (x : Option Object). StaysKnown c.args.inodes disk x (Some (record { status = c.in-Some.object.status; file = c.in-Some.object.file; known = c.find.new.known }))) (sym c.in-Some.is)
    (c.find.ensures.knows disk shows)

pub returns-clause-found : goal.returns-clause-found
returns-clause-found g c = λ detail disk settled node shows stands.
    let o = subst (λ (x : Option Object). IsObjectOrNone detail disk c.args.inodes settled x node) c.in-Some.is stands in
    let kind : c.in-Some.object.status.kind ≡ kinds.Directory = search rules in
    of_names disk c.args.inodes settled c.in-Some.object node o (λ names. IfOk c.find.result (λ n. n ≡ names c.args.name.now)) kind (λ names are. c.find.ensures.found disk names shows (o.known kind) are)

pub returns-clause-damaged : goal.returns-clause-damaged
returns-clause-damaged g c = λ detail disk settled node shows is stands sound.
    let o = subst (λ (x : Option Object). IsObjectOrNone detail disk c.args.inodes settled x node) c.in-Some.is stands in
    let kind : c.in-Some.object.status.kind ≡ kinds.Directory = search rules in
    c.find.ensures.damaged disk shows is (λ i below. sound c.in-Some.object c.in-Some.is kind i) (blocks_of disk c.args.inodes settled c.in-Some.object node o kind)
