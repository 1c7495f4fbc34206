use Rattle.images.proofs.InodeFileLaws as laws
use Rattle.images.proofs.inode_file.inodes_are_put_one_by_one.Goals as goal

pub returns-clause-there : goal.returns-clause-there
returns-clause-there c = λ h o n bytes fits. laws.with_here h o n bytes fits.block fits.inode

pub returns-clause-others : goal.returns-clause-others
returns-clause-others c = λ h o n m bytes fits. laws.with_there h o n m bytes fits.block fits.inode

pub returns-clause-behind : goal.returns-clause-behind
returns-clause-behind c = λ h o n i bytes fits. laws.with_behind h o n i bytes fits.block fits.inode
