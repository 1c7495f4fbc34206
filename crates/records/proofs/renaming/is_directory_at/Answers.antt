use Rattle.std.proofs.Common.{sym, ◌∙◌}
use Rattle.records.proofs.Looking.{fails, tells}
use Rattle.records.proofs.MoveLaws.{directory_found, other_found}
use Rattle.records.proofs.renaming.is_directory_at.Goals as goal

pub returns-in_err-found : goal.returns-in_err-found
returns-in_err-found g c = fails c.from_residual.result c.from_residual.ensures.1 c.in_err-found.ensures

pub returns-in-Directory : goal.returns-in-Directory
returns-in-Directory g c = tells c.in_ok-found.ensures (λ detail disk settled v now is. directory_found (v c.args.number) (sym is ∙ c.in-Directory.is))

pub returns-in_default : goal.returns-in_default
returns-in_default g c = tells c.in_ok-found.ensures (λ detail disk settled v now is. other_found (v c.args.number) (λ so. c.in_default.not-Directory (is ∙ so)))
