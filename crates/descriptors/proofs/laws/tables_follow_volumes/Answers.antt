use Rattle.descriptors.proofs.FitLemmas.{fits_mounted, fits_same, fits_swept}
use Rattle.descriptors.proofs.laws.tables_follow_volumes.Goals as goal

pub returns-clause-same : goal.returns-clause-same
returns-clause-same c = fits_same c.args.table.now

pub returns-clause-swept : goal.returns-clause-swept
returns-clause-swept c = fits_swept c.args.table.now

pub returns-clause-mounted : goal.returns-clause-mounted
returns-clause-mounted c = fits_mounted c.args.table.now
