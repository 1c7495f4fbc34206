use Rattle.std.proofs.Common.{◌≤◌, ℕ, Option, sym, subst, arith}
use Rattle.model.specs.Records.{with_node_mode}
use Rattle.model.specs.declared.attributes.Attributes.{Attributes}
use Rattle.inode.specs.declared.object.Object.{Object}
use Rattle.inofile.specs.Objects.{IsObjectIn, IsObjectOrNone}
use Rattle.records.proofs.RoomLaws.{raises_to}
use Rattle.records.proofs.StepLaws.{mode_set, with_attributes}
use Rattle.records.proofs.steps.set_mode.Goals as goal

pub returns-in-Some-clause-sets : goal.returns-in-Some-clause-sets
returns-in-Some-clause-sets c = λ detail disk inodes settled found stands is.
    let o = c.in-Some.object in
    subst (λ (a : Attributes). IsObjectIn detail disk inodes settled (with_attributes o a) (with_node_mode c.args.mode found)) (sym c.with_mode-object.ensures)
    (mode_set detail disk inodes settled o found c.args.mode (subst (λ (m : ℕ). m ≤ 4095) c.bits.ensures.same c.bits.ensures.fits)
    (subst (λ (x : Option Object). IsObjectOrNone detail disk inodes settled x found) c.in-Some.is stands) is)

pub returns-in-Some-clause-room : goal.returns-in-Some-clause-room
returns-in-Some-clause-room c =
    let o = c.in-Some.object in
    raises_to (with_attributes o c.with_mode-object.result) 0 c.in-Some.is (omega arith)
