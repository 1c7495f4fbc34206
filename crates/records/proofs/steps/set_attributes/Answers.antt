use Rattle.std.proofs.Common.{Option, sym, subst, arith}
use Rattle.model.specs.Attributes.{set_given}
use Rattle.model.specs.Records.{with_node_attributes}
use Rattle.model.specs.declared.attributes.Attributes.{Attributes}
use Rattle.inode.specs.declared.object.Object.{Object}
use Rattle.inofile.specs.Objects.{IsObjectIn, IsObjectOrNone}
use Rattle.records.proofs.RoomLaws.{raises_to}
use Rattle.records.proofs.StepLaws.{given_set, with_attributes}
use Rattle.records.proofs.steps.set_attributes.Goals as goal

pub returns-in-Some-clause-sets : goal.returns-in-Some-clause-sets
returns-in-Some-clause-sets c = λ detail disk inodes settled found stands takes.
    let o = c.in-Some.object in
    let f = set_given c.args.permissions c.args.modified in
    subst (λ (a : Attributes). IsObjectIn detail disk inodes settled (with_attributes o a) (with_node_attributes f found)) (sym c.given-object.ensures)
    (given_set detail disk inodes settled o found c.args.permissions c.args.modified takes (subst (λ (x : Option Object). IsObjectOrNone detail disk inodes settled x found) c.in-Some.is stands))

pub returns-in-Some-clause-room : goal.returns-in-Some-clause-room
returns-in-Some-clause-room c =
    let o = c.in-Some.object in
    raises_to (with_attributes o c.given-object.result) 0 c.in-Some.is (omega arith)
