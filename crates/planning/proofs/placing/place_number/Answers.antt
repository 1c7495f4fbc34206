use Rattle.std.proofs.Common.{◌≡◌, refl, rules, arith}
use Rattle.std.specs.Ordering.{nat_cmp}
use Rattle.std.specs.BTreeMap as tree
use Rattle.planning.specs.Numbers.{IsSettledFile}
use Rattle.planning.specs.Steps.{HasSettled, OverTree}
use Rattle.planning.proofs.SpaceLaws.{counts_object}
use Rattle.planning.proofs.NumberLaws.{agrees_now, none_placed, object_over, object_placed}
use Rattle.planning.proofs.SettledLaws.{file_over}
use Rattle.planning.proofs.placing.place_number.Given.{Over}
use Rattle.planning.proofs.placing.place_number.Goals as goal
use Rattle.planning.proofs.placing.place_number.Goals.{In_ok-settled}
use Rattle.inofile.proofs.ChangedLaws.{changed_known}
use Rattle.placement.proofs.StepLaws.{both_err, both_rise, read_before}
use Rattle.planning.proofs.PromiseLaws.{both_unread, read_of}

-- the inode that was read is the settled one
module _ (g : Over) (c : In_ok-settled g) (o : OverTree g.B.Blocks c.args.blocks.now c.args.inodes.now) where
  now : c.in_ok-settled.settled ≡ o.settled c.args.number
  now = c.in_ok-settled.ensures.read _ o.disk o.settled o.shows o.memory.inodes

  file : HasSettled c.args.draft.now o.before.entry → IsSettledFile c.args.inodes.now.geometry c.args.draft.now o.disk c.in_ok-settled.settled
  file same = file_over o c.args.draft.now same c.requires.disk c.args.number c.in_ok-settled.settled now

pub returns-in_err-settled-clause-damaged : goal.returns-in_err-settled-clause-damaged
returns-in_err-settled-clause-damaged g c = λ o same bad. c.in_err-settled.ensures.damaged _ o.disk o.settled o.shows (search rules) o.memory.inodes

pub returns-in_err-cleared-clause-damaged : goal.returns-in_err-cleared-clause-damaged
returns-in_err-cleared-clause-damaged g c = λ o same bad.
    c.in_err-cleared.ensures.damaged c.args.inodes.now.geometry o.disk (c.settled_inode.ensures.reads.same o.disk o.shows) (file g (goal.at.returns-in_err-cleared-clause-damaged g c).In_ok-settled o same) (search rules)

pub returns-in_default-clause-placed : goal.returns-in_default-clause-placed
returns-in_default-clause-placed g c = λ o is e has same.
    let at = (goal.at.returns-in_default-clause-placed g c).In_ok-settled in
    none_placed c.args.inodes.now.geometry o.disk e o.settled c.args.inodes.now c.args.number c.in_ok-settled.settled c.in_ok-cleared.cleared.inode _ _ refl (now g at o) (c.in_default.ensures.none o.disk o.settled)
    (c.in_ok-cleared.ensures.cleared c.args.inodes.now.geometry o.disk (c.settled_inode.ensures.reads.same o.disk o.shows) (file g at o is) e has
    (agrees_now o.disk e c.in_ok-settled.settled (o.settled c.args.number) (now g at o) same))

pub returns-in_err-placed-clause-damaged : goal.returns-in_err-placed-clause-damaged
returns-in_err-placed-clause-damaged g c = λ o same bad.
    let at = (goal.at.returns-in_err-placed-clause-damaged g c).In_ok-settled in
    let s = c.args.inodes.now.geometry in
    c.in_err-placed.ensures.damaged s o.disk (c.settled_inode.ensures.reads.same o.disk o.shows) (file g at o same)
    (object_over s s.inodes o.disk c.in_ok-settled.settled (o.settled c.args.number) c.in-Some.object.now (o.volume c.args.number) (now g at o)
    (c.in-Some.ensures.stands _ (g.B.Blocks.count c.args.blocks.now) o.disk o.settled o.volume o.memory))
    (search rules)

pub returns-clause-placed : goal.returns-clause-placed
returns-clause-placed g c = λ o is e has same.
    let at = (goal.at.returns-clause-placed g c).In_ok-settled in
    let s = c.args.inodes.now.geometry in
    let shown = c.settled_inode.ensures.reads.same o.disk o.shows in
    let stands = c.in-Some.ensures.stands _ (g.B.Blocks.count c.args.blocks.now) o.disk o.settled o.volume o.memory in
    let object = object_over s s.inodes o.disk c.in_ok-settled.settled (o.settled c.args.number) c.in-Some.object.now (o.volume c.args.number) (now g at o) stands in
    let agrees = agrees_now o.disk e c.in_ok-settled.settled (o.settled c.args.number) (now g at o) same in
    object_placed s o.disk e o.settled c.args.inodes.now c.args.number c.in_ok-settled.settled c.in_ok-placed.placed.inode c.in-Some.object.now _ _ (now g at o) stands.kind (c.in-Some.ensures.some o.disk o.settled)
    (c.in_ok-placed.ensures.placed s o.disk shown (file g at o is) object e has agrees)
    (c.in_ok-placed.ensures.content s o.disk shown (file g at o is) object e has agrees)

pub get-requires : goal.get-requires
get-requires g c = changed_known (tree.get nat_cmp c.args.inodes.now.slots c.args.number) c.requires.changed

pub returns-in_err-settled-clause-step : goal.returns-in_err-settled-clause-step
returns-in_err-settled-clause-step g c = both_unread c.from_residual.result c.from_residual.ensures.1 c.in_err-settled.ensures.reads

pub returns-in_err-cleared-clause-step : goal.returns-in_err-cleared-clause-step
returns-in_err-cleared-clause-step g c =
    both_err c.from_residual-in_err-cleared.result c.from_residual-in_err-cleared.ensures.1 (read_before (read_of c.in_ok-settled.ensures.reads) (both_rise c.in_err-cleared.ensures.step (omega arith)))

pub returns-in_default-clause-step : goal.returns-in_default-clause-step
returns-in_default-clause-step g c =
    read_before (read_of c.in_ok-settled.ensures.reads) (both_rise c.in_ok-cleared.ensures.step (omega arith))

pub returns-in_err-placed-clause-step : goal.returns-in_err-placed-clause-step
returns-in_err-placed-clause-step g c =
    let count = counts_object (tree.get nat_cmp c.args.inodes.now.slots c.args.number) c.in-Some.object.now c.requires.changed c.in-Some.ensures.loaded in
    both_err c.from_residual-in_err-placed.result c.from_residual-in_err-placed.ensures.1 (read_before (read_of c.in_ok-settled.ensures.reads) (both_rise c.in_err-placed.ensures.step (omega (arith, count))))

pub returns-clause-step : goal.returns-clause-step
returns-clause-step g c =
    let count = counts_object (tree.get nat_cmp c.args.inodes.now.slots c.args.number) c.in-Some.object.now c.requires.changed c.in-Some.ensures.loaded in
    read_before (read_of c.in_ok-settled.ensures.reads) (both_rise c.in_ok-placed.ensures.step (omega (arith, count)))
