use Rattle.records.proofs.Looking.{behind, brought, fails}
use Rattle.records.proofs.directory_names.edit_parent.Goals as goal

pub returns-in_err-load_to_change-clause-edit : goal.returns-in_err-load_to_change-clause-edit
returns-in_err-load_to_change-clause-edit g c = fails c.from_residual.result c.from_residual.ensures.1 (brought c.in_err-load_to_change.ensures)

pub returns-clause-edit : goal.returns-clause-edit
returns-clause-edit g c = behind (brought c.in_ok-load_to_change.ensures) c.edit_known.ensures.edit
