use Rattle.inofile.proofs.FileLaws.{files_hold, files_unchanged}
use Rattle.inofile.proofs.laws.memory_holds_its_volume.Goals as goal

pub returns-clause-holds : goal.returns-clause-holds
returns-clause-holds c = files_hold

pub returns-clause-unchanged : goal.returns-clause-unchanged
returns-clause-unchanged c = λ count disk settled s v n is not. files_unchanged count disk settled s v is n not
