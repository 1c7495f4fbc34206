use Rattle.std.proofs.Common.{ℕ, ◌≤◌, List, length, true, refl, sym, subst, arith}
use Rattle.conspoint.specs.Marks.{AreMarked}
use Rattle.layout.specs.declared.kind.Kind.TheVariants as kinds
use Rattle.images.specs.Roots.{free_inode}
use Rattle.placement.specs.Files.{IsChangeOf, is_one}
use Rattle.placement.specs.Space.{file_stores}
use Rattle.making.specs.Space.{NUMBERS_STORES}
use Rattle.making.specs.Starts.{nothing}
use Rattle.making.proofs.DraftLaws.{has_file, own_change, shortage, placed_fails, placed_takes}
use Rattle.making.proofs.NumbersLaws.{numbers_end, numbers_on}
use Rattle.making.proofs.RoomLaws.{numbers_few}
use Rattle.making.proofs.first.place_numbers.Goals as goal
use Rattle.making.proofs.first.place_numbers.Goals.{In_ok-object}
use Rattle.conspoint.proofs.StepLemmas.{marks_take, places_none, takes_err, takes_of, takes_ok, takes_out, takes_then}

-- the object that is placed, over nothing
change : (c : In_ok-object) → IsChangeOf c.args.geometry c.args.draft.now nothing (free_inode c.args.geometry.layout) c.in_ok-object.object
change c =
    let s = c.args.geometry in
    let o = c.in_ok-object.object in
    let law = c.free_files_hold_nothing.ensures in
    own_change s c.args.draft.now o kinds.InodeMap (sym c.requires.map) (law.sound s nothing) (law.none s.layout nothing) c.in_ok-object.ensures.base
    (numbers_end o.file s.inodes c.in_ok-object.ensures.size c.inodes.ensures.within.least_inodes (c.in_ok-object.ensures.blocks nothing)) c.in_ok-object.ensures.status (refl, refl, c.in_ok-object.ensures.size)

few : (c : In_ok-object) → file_stores c.in_ok-object.object.file ≤ NUMBERS_STORES
few c = numbers_few c.in_ok-object.object.file c.args.geometry.inodes c.in_ok-object.ensures.size c.inodes.ensures.within.most_inodes

pub returns-clause-file : goal.returns-clause-file
returns-clause-file c =
    let s = c.args.geometry in
    let law = c.free_files_hold_nothing.ensures in
    let placed = c.in_ok-placed.placed in
    let there = c.in_ok-placed.ensures.placed s nothing (free_inode s.layout) (λ place. refl) (change (goal.at.returns-clause-file c).In_ok-object) in
    has_file (λ e. Unit {0}) s c.args.draft.now c.place_file.new.draft c.mark_all.new.draft placed.inode placed.taken.items (is_one placed.freed.items) (law.none s.layout nothing)
    c.mark_all.ensures.step.grows c.mark_all.ensures.step.next c.place_file.ensures.step.parts
    (subst (λ (xs : List ℕ). AreMarked xs (length xs) true c.place_file.new.draft.map.parts.items c.mark_all.new.draft.map.parts.items) c.deref.ensures.value c.in_ok-mark_all.ensures.marked)
    c.in_ok-placed.ensures.blocks.given (λ e has agrees one. there.placed e has agrees)

pub returns-clause-numbers : goal.returns-clause-numbers
returns-clause-numbers c = λ e has.
    let law = c.free_files_hold_nothing.ensures in
    let there = c.in_ok-placed.ensures.placed c.args.geometry nothing (free_inode c.args.geometry.layout) (λ place. refl) (change (goal.at.returns-clause-numbers c).In_ok-object) in
    let before = c.mark_all.ensures.step.grows.has e has in
    numbers_on e c.in_ok-placed.placed.inode c.in_ok-object.object c.args.geometry.inodes c.in_ok-object.ensures.status c.in_ok-object.ensures.size c.inodes.ensures.within.least_inodes (c.in_ok-object.ensures.blocks nothing)
    (there.content e before (λ b names. absurd (law.none c.args.geometry.layout nothing b names))) (there.whole c.in_ok-object.ensures.changed e before (λ b names. absurd (law.none c.args.geometry.layout nothing b names)))

pub returns-in_err-object-clause-step : goal.returns-in_err-object-clause-step
returns-in_err-object-clause-step c =
    takes_out c.from_residual.result c.from_residual.ensures.1 (takes_of (places_none {n = 0} {y = tt {0}} c.args.draft.now))

pub returns-in_err-placed-clause-step : goal.returns-in_err-placed-clause-step
returns-in_err-placed-clause-step c =
    let at = (goal.at.returns-in_err-placed-clause-step c).In_ok-object in
    placed_fails c.from_residual-in_err-placed.result c.from_residual-in_err-placed.ensures.1
    (shortage c.in_err-placed.field-0.0 (λ is. c.in_err-placed.ensures.step.reads.device cc) (c.in_err-placed.ensures.damaged c.args.geometry nothing (free_inode c.args.geometry.layout) (λ place. refl) (change at))) c.in_err-placed.ensures.step (few at)

pub returns-in_err-mark_all-clause-step : goal.returns-in_err-mark_all-clause-step
returns-in_err-mark_all-clause-step c =
    takes_err c.from_residual-in_err-mark_all.result c.from_residual-in_err-mark_all.ensures.1
    (takes_then (placed_takes c.in_ok-placed.ensures.step (few (goal.at.returns-in_err-mark_all-clause-step c).In_ok-object)) (marks_take c.in_err-mark_all.ensures.step) (omega arith))

pub returns-clause-step : goal.returns-clause-step
returns-clause-step c =
    takes_ok (takes_then (placed_takes c.in_ok-placed.ensures.step (few (goal.at.returns-clause-step c).In_ok-object)) (marks_take c.in_ok-mark_all.ensures.step) (omega arith))
