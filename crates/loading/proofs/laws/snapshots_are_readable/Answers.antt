use Rattle.loading.proofs.ReadyLaws.{frozen_is, frozen_readable}
use Rattle.loading.proofs.laws.snapshots_are_readable.Goals as goal

pub returns-clause-tree : goal.returns-clause-tree
returns-clause-tree c = frozen_is

pub returns-clause-readable : goal.returns-clause-readable
returns-clause-readable c = frozen_readable
