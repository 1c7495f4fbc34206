use Rattle.std.proofs.Common.{arith}
use Rattle.std.proofs.lemmas.Grind.{common_steps}
use Rattle.inofile.proofs.inode_file.InodeFile.take.Goals as goal

pub returns-clause-without : goal.returns-clause-without
returns-clause-without c = absurd (grind (arith, common_steps))
