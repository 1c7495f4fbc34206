use Rattle.std.proofs.Common.{◌∙◌, ◌<◌, ◌∷◌, ◌++◌, [], ℕ, false, length, ap, sym, subst}
use Rattle.std.proofs.lemmas.List.{get_or_default}
use Rattle.records.specs.Below.{MarksMore}
use Rattle.records.proofs.BelowLaws.{marks_one}
use Rattle.records.proofs.below.mark.Goals as goal

pub returns-clause-marks : goal.returns-clause-marks
returns-clause-marks c =
    let marks = c.args.marks.now.items in
    let left = c.args.left.now.items in
    let at = c.get-at.result in
    let within = subst (λ (k : ℕ). k < length marks) (sym c.get-at.ensures) c.requires in
    let not = get_or_default marks at false c.index.result.now within ∙ sym c.index.ensures ∙ c.if-index.false in
    subst (MarksMore marks _ left) (ap (λ (k : ℕ). left ++ k ∷ []) c.get-at.ensures ∙ sym c.in_ok-push.ensures.items) (marks_one marks left at within not)
