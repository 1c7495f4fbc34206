use Rattle.std.proofs.Common.{ℕ, ◌≤◌, List, length, true, refl, sym, subst, arith}
use Rattle.buffers.specs.Disks.{IsWhole}
use Rattle.conspoint.specs.Marks.{AreMarked}
use Rattle.layout.specs.declared.kind.Kind.TheVariants as kinds
use Rattle.images.specs.Roots.{free_inode}
use Rattle.placement.specs.Files.{IsChangeOf, is_one}
use Rattle.placement.specs.Space.{first_stores}
use Rattle.making.specs.Space.{TOP_STORES}
use Rattle.making.specs.Starts.{nothing}
use Rattle.making.proofs.DraftLaws.{has_file, own_change, shortage, placed_fails, placed_takes}
use Rattle.making.proofs.TopLaws.{zeros_end, top_on}
use Rattle.making.proofs.RoomLaws.{top_few}
use Rattle.making.proofs.first.place_top.Goals as goal
use Rattle.making.proofs.first.place_top.Goals.{After-inode_file-object}
use Rattle.conspoint.proofs.StepLemmas.{marks_take, takes_err, takes_ok, takes_then}

-- the object that is placed, over nothing
change : (c : After-inode_file-object) → IsChangeOf c.args.geometry c.args.draft.now nothing (free_inode c.args.geometry.layout) c.inode_file-object.result
change c =
    let s = c.args.geometry in
    let o = c.inode_file-object.result in
    let law = c.free_files_hold_nothing.ensures in
    own_change s c.args.draft.now o kinds.InodeFile (sym c.requires.map) (law.sound s nothing) (law.none s.layout nothing) c.inode_file-object.ensures.base
    (zeros_end o.file (c.inode_file-object.ensures.blocks nothing)) c.inode_file-object.ensures.status (refl, refl, c.inode_file-object.ensures.size)

few : (c : After-inode_file-object) → first_stores c.inode_file-object.result.file ≤ TOP_STORES
few c = top_few c.inode_file-object.result.file c.inode_file-object.ensures.small c.inode_file-object.ensures.unchanged

pub returns-clause-file : goal.returns-clause-file
returns-clause-file c =
    let s = c.args.geometry in
    let placed = c.in_ok-all.all.0 in
    has_file (λ e. IsWhole (e c.in_ok-all.all.1)) s c.args.draft.now c.place_file_but_first.new.draft c.mark_all.new.draft placed.inode placed.taken.items (is_one placed.freed.items) (c.free_files_hold_nothing.ensures.none s.layout nothing)
    c.mark_all.ensures.step.grows c.mark_all.ensures.step.next c.place_file_but_first.ensures.step.parts
    (subst (λ (xs : List ℕ). AreMarked xs (length xs) true c.place_file_but_first.new.draft.map.parts.items c.mark_all.new.draft.map.parts.items) c.deref.ensures.value c.in_ok-mark_all.ensures.marked)
    c.in_ok-all.ensures.blocks.given (c.in_ok-all.ensures.placed s nothing (free_inode s.layout) (λ place. refl) (change (goal.at.returns-clause-file c).After-inode_file-object)).placed

pub returns-clause-top : goal.returns-clause-top
returns-clause-top c = λ e has.
    let there = c.in_ok-all.ensures.placed c.args.geometry nothing (free_inode c.args.geometry.layout) (λ place. refl) (change (goal.at.returns-clause-top c).After-inode_file-object) in
    top_on e c.in_ok-all.all.1 c.in_ok-all.all.0.inode c.inode_file-object.result c.inode_file-object.ensures.status (c.inode_file-object.ensures.blocks nothing)
    (there.content e (c.mark_all.ensures.step.grows.has e has) (λ b names. absurd (c.free_files_hold_nothing.ensures.none c.args.geometry.layout nothing b names)))

pub returns-in_err-all-clause-step : goal.returns-in_err-all-clause-step
returns-in_err-all-clause-step c =
    let at = (goal.at.returns-in_err-all-clause-step c).After-inode_file-object in
    placed_fails c.from_residual.result c.from_residual.ensures.1
    (shortage c.in_err-all.field-0.0 (λ is. c.in_err-all.ensures.step.reads.device cc) (c.in_err-all.ensures.damaged c.args.geometry nothing (free_inode c.args.geometry.layout) (λ place. refl) (change at))) c.in_err-all.ensures.step (few at)

pub returns-in_err-mark_all-clause-step : goal.returns-in_err-mark_all-clause-step
returns-in_err-mark_all-clause-step c =
    takes_err c.from_residual-in_err-mark_all.result c.from_residual-in_err-mark_all.ensures.1
    (takes_then (placed_takes c.in_ok-all.ensures.step (few (goal.at.returns-in_err-mark_all-clause-step c).After-inode_file-object)) (marks_take c.in_err-mark_all.ensures.step) (omega arith))

pub returns-clause-step : goal.returns-clause-step
returns-clause-step c =
    takes_ok (takes_then (placed_takes c.in_ok-all.ensures.step (few (goal.at.returns-clause-step c).After-inode_file-object)) (marks_take c.in_ok-mark_all.ensures.step) (omega arith))
