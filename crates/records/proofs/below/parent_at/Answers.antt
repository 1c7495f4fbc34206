use Rattle.std.proofs.Common.{◌∙◌, ℕ, Some, ap, sym}
use Rattle.records.proofs.Looking.{fails, tells}
use Rattle.records.proofs.below.parent_at.Goals as goal

pub returns-in_err-found-clause-parent : goal.returns-in_err-found-clause-parent
returns-in_err-found-clause-parent g c = fails c.from_residual.result c.from_residual.ensures.1 c.in_err-found.ensures.number

pub returns-clause-parent : goal.returns-clause-parent
returns-clause-parent g c = tells c.in_ok-found.ensures.number (λ detail disk settled v now is. (
  c.args.name.now,
  sym is ∙ c.in-Some.is ∙ ap (λ (j : ℕ). Some j) (c.is_same.ensures.yes c.if-not-is_same.false),
))
