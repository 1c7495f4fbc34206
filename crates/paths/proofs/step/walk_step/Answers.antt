use Rattle.std.proofs.Common.{rules, ◌≡◌, ◌∙◌, false, None, Some, IfSome, sym, ap, subst}
use borrow.Author.Tests.{tests}
use Rattle.model.specs.Finding.{here}
use Rattle.model.specs.Paths.{is_dot, is_dot_dot, is_too_long}
use Rattle.model.specs.Volumes.{entries}
use Rattle.paths.specs.Numbers.{IsInodeNumber}
use Rattle.paths.proofs.LookingUp.{fails, finds, looked_into, then_fails, then_finds}
use Rattle.paths.proofs.Looks.{has_looked}
use Rattle.paths.proofs.Walks.{turned_to_nothing, turned_to}
use Rattle.paths.proofs.step.walk_step.Goals as goal

pub returns-in_err-number : goal.returns-in_err-number
returns-in_err-number g c = fails c.from_residual.result c.from_residual.ensures.1 c.in_err-number.ensures.looks c.number_at.ensures.loads (λ disk settled v stands. c.in_err-number.ensures.damaged disk settled v stands)

pub returns-in_default : goal.returns-in_default
returns-in_default g c = finds c.in_ok-number.ensures.looks c.number_at.ensures.loads (c.step_to_nothing.ensures.within c.args.inodes.now.geometry.inodes)
    (λ disk settled v stands trail rest at last.
    let part = c.args.part.now in
    let here_not : is_dot part ≡ false = search (rules, tests) in
    let up_not : is_dot_dot part ≡ false = search (rules, tests) in
    let short : is_too_long part ≡ false = search (rules, tests) in
    let none : entries v (here trail) part ≡ None = ap (λ d. entries v d part) at ∙ sym (c.in_ok-number.ensures.found disk settled v stands) ∙ c.in_default.is in
    c.step_to_nothing.ensures.step v c.args.follow trail part rest last ∙ turned_to_nothing v c.args.follow trail part rest here_not up_not short none)

pub returns-in_err-found : goal.returns-in_err-found
returns-in_err-found g c =
    then_fails c.from_residual-in_err-found.result c.from_residual-in_err-found.ensures.1 (has_looked c.in_ok-number.ensures.looks c.number_at.ensures.loads) (looked_into c.in_err-found.ensures)

pub returns : goal.returns
returns g c = rw c.note_found.ensures (then_finds (has_looked c.in_ok-number.ensures.looks c.number_at.ensures.loads) (looked_into c.in_ok-found.ensures)
    (c.step_to.ensures.within c.args.inodes.now.geometry.inodes (subst (λ o. IfSome o (IsInodeNumber c.args.inodes.now.geometry.inodes)) c.in-Some.is c.in_ok-number.ensures.within))
    (λ disk settled v stands trail rest at last.
    let part = c.args.part.now in
    let n = c.in-Some.number in
    let now = c.number_at.ensures.looks.kept disk settled v stands in
    let here_not : is_dot part ≡ false = search (rules, tests) in
    let up_not : is_dot_dot part ≡ false = search (rules, tests) in
    let short : is_too_long part ≡ false = search (rules, tests) in
    let some : entries v (here trail) part ≡ Some n = ap (λ d. entries v d part) at ∙ sym (c.in_ok-number.ensures.found disk settled v stands) ∙ c.in-Some.is in
    c.step_to.ensures.step v trail part rest (c.in_ok-found.ensures.found disk settled v now) last
    ∙ turned_to v c.args.follow trail part rest here_not up_not short n some))
