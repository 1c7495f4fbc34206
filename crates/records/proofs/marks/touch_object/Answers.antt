use Rattle.std.proofs.Common.{Option, sym, subst, arith}
use Rattle.model.specs.Records.{with_node_attributes}
use Rattle.model.specs.Touches.{touched_at}
use Rattle.model.specs.declared.attributes.Attributes.{Attributes}
use Rattle.inode.specs.declared.object.Object.{Object}
use Rattle.inofile.specs.Objects.{IsObjectIn, IsObjectOrNone}
use Rattle.records.proofs.MarkLaws.{object_touched}
use Rattle.records.proofs.RoomLaws.{raises_to}
use Rattle.records.proofs.StepLaws.{with_attributes}
use Rattle.records.proofs.marks.touch_object.Goals as goal

pub returns-in-Some-clause-touches : goal.returns-in-Some-clause-touches
returns-in-Some-clause-touches c = λ detail disk inodes settled found keeps stands.
    let o = c.in-Some.object in
    subst (λ (a : Attributes). IsObjectIn detail disk inodes settled (with_attributes o a) (with_node_attributes (touched_at c.args.time.now c.args.touch) found)) (sym c.touched-object.ensures)
    (object_touched detail disk inodes settled o found c.args.time.now c.args.touch keeps (subst (λ (x : Option Object). IsObjectOrNone detail disk inodes settled x found) c.in-Some.is stands))

pub returns-in-Some-clause-room : goal.returns-in-Some-clause-room
returns-in-Some-clause-room c =
    let o = c.in-Some.object in
    raises_to (with_attributes o c.touched-object.result) 0 c.in-Some.is (omega arith)
