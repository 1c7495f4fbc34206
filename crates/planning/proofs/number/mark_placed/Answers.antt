use Rattle.std.proofs.Common.{ℕ, true, false, List, length, subst}
use Rattle.conspoint.specs.Marks.{AreMarked}
use Rattle.conspoint.proofs.StepLemmas.{keeps_none, keeps_then, marks_err, marks_keep, marks_ok}
use Rattle.planning.proofs.MarkLaws.{marked_both}
use Rattle.planning.proofs.number.mark_placed.Goals as goal

pub returns-clause-marked : goal.returns-clause-marked
returns-clause-marked c =
    let old = c.args.draft.now.map.parts.items in
    let mid = c.mark_all.new.draft.map.parts.items in
    let new = c.mark_all-2.new.draft.map.parts.items in
    marked_both c.args.placed.now.taken.items c.args.placed.now.freed.items old mid new
    (subst (λ (xs : List ℕ). AreMarked xs (length xs) false old mid) c.deref.ensures.value c.in_ok-mark_all.ensures.marked)
    (subst (λ (xs : List ℕ). AreMarked xs (length xs) true mid new) c.deref-2.ensures.value c.in_ok-mark_all-2.ensures.marked)

pub returns-in_err-mark_all-clause-step : goal.returns-in_err-mark_all-clause-step
returns-in_err-mark_all-clause-step c = marks_err c.from_residual.result c.from_residual.ensures.1 (keeps_none c.args.draft.now) c.in_err-mark_all.ensures.step

pub returns-in_err-mark_all-2-clause-step : goal.returns-in_err-mark_all-2-clause-step
returns-in_err-mark_all-2-clause-step c =
    marks_err c.from_residual-in_err-mark_all-2.result c.from_residual-in_err-mark_all-2.ensures.1 (marks_keep c.mark_all.ensures.step) c.in_err-mark_all-2.ensures.step

pub returns-clause-step : goal.returns-clause-step
returns-clause-step c = marks_ok (keeps_then (marks_keep c.mark_all.ensures.step) (marks_keep c.mark_all-2.ensures.step))
