use Rattle.conspoint.proofs.DiskBlocks as disks
use Rattle.conspoint.proofs.laws.written_disks_have_the_blocks.Goals as goal

pub returns-clause-has : goal.returns-clause-has
returns-clause-has c = disks.has

pub returns-clause-others : goal.returns-clause-others
returns-clause-others c = disks.others
