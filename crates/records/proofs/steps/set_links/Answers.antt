use Rattle.std.proofs.Common.{Option, subst, arith}
use Rattle.inode.specs.declared.object.Object.{Object}
use Rattle.inofile.specs.Objects.{IsObjectOrNone}
use Rattle.records.proofs.RoomLaws.{raises_to}
use Rattle.records.proofs.StepLaws.{links_set}
use Rattle.records.proofs.steps.set_links.Goals as goal

pub returns-in-Some-clause-sets : goal.returns-in-Some-clause-sets
returns-in-Some-clause-sets c = λ detail disk inodes settled found stands is few.
    links_set detail disk inodes settled c.in-Some.object found c.args.links few
    (subst (λ (x : Option Object). IsObjectOrNone detail disk inodes settled x found) c.in-Some.is stands) is

pub returns-in-Some-clause-room : goal.returns-in-Some-clause-room
returns-in-Some-clause-room c =
    let o = c.in-Some.object in
    raises_to (record { status = record { kind = o.status.kind; attributes = o.status.attributes; links = c.args.links }; file = o.file; known = o.known }) 0 c.in-Some.is (omega arith)
