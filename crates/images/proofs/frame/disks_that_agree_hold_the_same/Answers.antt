use Rattle.images.proofs.Frames as frames
use Rattle.images.proofs.frame.disks_that_agree_hold_the_same.Goals as goal

pub returns-clause-tree : goal.returns-clause-tree
returns-clause-tree c = frames.tree_same

pub returns-clause-whole : goal.returns-clause-whole
returns-clause-whole c = frames.whole_same

pub returns-clause-file : goal.returns-clause-file
returns-clause-file c = frames.held_same
