use Rattle.inode.proofs.BaseLaws.{same_base}
use Rattle.inode.proofs.file.File.set_size.Goals as goal

pub returns-clause-base : goal.returns-clause-base
returns-clause-base c = same_base _ _ c.trim.ensures.settled
