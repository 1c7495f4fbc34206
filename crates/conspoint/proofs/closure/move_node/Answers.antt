use Rattle.std.proofs.Common.{◌≡◌, Ok, List, ap, subst, sym, ◌∙◌, arith}
use Rattle.blockmap.specs.Maps.{entry_at}
use Rattle.blockmap.specs.Parts.{Part}
use Rattle.conspoint.specs.declared.draft.Draft.{Draft}
use Rattle.conspoint.specs.Steps.{Takes}
use Rattle.conspoint.proofs.StepLemmas.{marks_take, places_none, takes_err, takes_of, takes_ok, takes_then}
use Rattle.conspoint.proofs.closure.move_node.Goals.{in-Block+in_ok-touch, in_default}
use Rattle.conspoint.proofs.closure.move_node.Goals as goal

pub returns-in_err-place-clause-step : goal.returns-in_err-place-clause-step
returns-in_err-place-clause-step c =
    let first : Takes {T = Unit {0}} 0 c.args.draft.now c.match-before.draft (Ok tt) = elim c.match-before.branch [
      | in-Block+in_ok-touch w ↦ subst (λ (d : Draft). Takes {T = Unit {0}} 0 c.args.draft.now d (Ok tt)) (sym w.draft-is) (takes_ok (marks_take w.in_ok-touch.ensures.step))
      | in_default w ↦ subst (λ (d : Draft). Takes {T = Unit {0}} 0 c.args.draft.now d (Ok tt)) (sym w.draft-is) (takes_of (places_none c.args.draft.now))
    ] in
    takes_err c.from_residual-in_err-place.result c.from_residual-in_err-place.ensures.1 (takes_then first (takes_of c.in_err-place.ensures.step) (omega arith))

pub returns-in_err-touch-2-clause-step : goal.returns-in_err-touch-2-clause-step
returns-in_err-touch-2-clause-step c =
    let first : Takes {T = Unit {0}} 0 c.args.draft.now c.match-before.draft (Ok tt) = elim c.match-before.branch [
      | in-Block+in_ok-touch w ↦ subst (λ (d : Draft). Takes {T = Unit {0}} 0 c.args.draft.now d (Ok tt)) (sym w.draft-is) (takes_ok (marks_take w.in_ok-touch.ensures.step))
      | in_default w ↦ subst (λ (d : Draft). Takes {T = Unit {0}} 0 c.args.draft.now d (Ok tt)) (sym w.draft-is) (takes_of (places_none c.args.draft.now))
    ] in
    takes_err c.from_residual-in_err-touch-2.result c.from_residual-in_err-touch-2.ensures.1
    (takes_then (takes_then {k = 1} first (takes_of c.in_ok-place.ensures.step) (omega arith)) (marks_take c.in_err-touch-2.ensures.step) (omega arith))

pub returns-clause-step : goal.returns-clause-step
returns-clause-step c =
    let first : Takes {T = Unit {0}} 0 c.args.draft.now c.match-before.draft (Ok tt) = elim c.match-before.branch [
      | in-Block+in_ok-touch w ↦ subst (λ (d : Draft). Takes {T = Unit {0}} 0 c.args.draft.now d (Ok tt)) (sym w.draft-is) (takes_ok (marks_take w.in_ok-touch.ensures.step))
      | in_default w ↦ subst (λ (d : Draft). Takes {T = Unit {0}} 0 c.args.draft.now d (Ok tt)) (sym w.draft-is) (takes_of (places_none c.args.draft.now))
    ] in
    takes_ok (takes_then (takes_then {k = 1} first (takes_of c.in_ok-place.ensures.step) (omega arith)) (marks_take c.in_ok-touch-2.ensures.step) (omega arith))

pub returns-in_err-place-clause-entries : goal.returns-in_err-place-clause-entries
returns-in_err-place-clause-entries c b =
    let first : entry_at c.match-before.draft.map.parts.items b ≡ entry_at c.args.draft.now.map.parts.items b = elim c.match-before.branch [
      | in-Block+in_ok-touch w ↦ ap (λ (d : Draft). entry_at d.map.parts.items b) w.draft-is ∙ w.touch.ensures.entries b
      | in_default w ↦ ap (λ (d : Draft). entry_at d.map.parts.items b) w.draft-is
    ] in
    ap (λ (ps : List Part). entry_at ps b) c.reserve.ensures.step.parts ∙ first

pub returns-clause-entries : goal.returns-clause-entries
returns-clause-entries c b =
    let first : entry_at c.match-before.draft.map.parts.items b ≡ entry_at c.args.draft.now.map.parts.items b = elim c.match-before.branch [
      | in-Block+in_ok-touch w ↦ ap (λ (d : Draft). entry_at d.map.parts.items b) w.draft-is ∙ w.touch.ensures.entries b
      | in_default w ↦ ap (λ (d : Draft). entry_at d.map.parts.items b) w.draft-is
    ] in
    c.touch-2.ensures.entries b ∙ ap (λ (ps : List Part). entry_at ps b) c.reserve.ensures.step.parts ∙ first
