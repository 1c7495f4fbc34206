use Rattle.std.proofs.Common.{◌≡◌, ◌∙◌, [], eqb-true, vec_len, sym, arith}
use Rattle.std.proofs.lemmas.List.{nil_from_length}
use Rattle.std.proofs.lemmas.Bool.{false≢true}
use Rattle.paths.proofs.LookingUp.{same_error}
use Rattle.paths.proofs.Looks.{looks_err, looks_more, looks_ok}
use Rattle.records.proofs.BelowLaws.{childless, only_itself}
use Rattle.records.proofs.below.look_below.Goals as goal

pub returns-in_err-children-clause-looks : goal.returns-in_err-children-clause-looks
returns-in_err-children-clause-looks g c = looks_err c.from_residual.result c.from_residual.ensures.1 c.in_err-children.ensures.looks

pub returns-in_err-children-clause-damaged : goal.returns-in_err-children-clause-damaged
returns-in_err-children-clause-damaged g c = λ detail disk settled v stands is.
    c.in_err-children.ensures.damaged detail disk settled v stands (same_error c.from_residual.result _ _ c.from_residual.ensures.1 is)

pub returns-then-is_empty-clause-looks : goal.returns-then-is_empty-clause-looks
returns-then-is_empty-clause-looks g c = looks_ok c.in_ok-children.ensures.looks

-- below an object without names there is nothing else
pub returns-then-is_empty-clause-below : goal.returns-then-is_empty-clause-below
returns-then-is_empty-clause-below g c = λ detail disk settled v stands. (
  λ is. absurd (false≢true is),
  λ below.
      let children = c.in_ok-children.children in
      let empty : vec_len children ≡ 0 = eqb-true (vec_len children) 0 (sym c.is_empty.ensures ∙ c.if-is_empty.true) in
      let none : children.items ≡ [] = nil_from_length children.items (omega (arith, empty, children.ok)) in
      absurd (c.requires.other (sym (only_itself v c.args.top c.args.number (childless v c.args.top _ none (c.in_ok-children.ensures.children detail disk settled v stands)) below))),
)

pub returns-clause-looks : goal.returns-clause-looks
returns-clause-looks g c = looks_more c.in_ok-children.ensures.looks c.search.ensures.looks

pub returns-clause-below : goal.returns-clause-below
returns-clause-below g c = λ detail disk settled v stands.
    c.search.ensures.below detail disk settled v (c.in_ok-children.ensures.looks.kept {detail = detail} disk settled v stands) (c.in_ok-children.ensures.children detail disk settled v stands)

pub returns-clause-damaged : goal.returns-clause-damaged
returns-clause-damaged g c = λ detail disk settled v stands. c.search.ensures.damaged detail disk settled v (c.in_ok-children.ensures.looks.kept {detail = detail} disk settled v stands)
