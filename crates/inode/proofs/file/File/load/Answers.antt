use Rattle.std.proofs.Common.{◌∙◌}
use Rattle.blocktree.specs.Trees.{tree_block}
use Rattle.inode.proofs.HeldLaws.{held_ends, starts_based}
use Rattle.inode.proofs.file.File.load.Goals as goal

pub returns-clause-held : goal.returns-clause-held
returns-clause-held c = λ detail s disk sound n. c.in_ok-tree.ensures.blocks disk n ∙ c.settled_files_are_as_held.ensures _ s disk c.args.inode n sound

pub returns-clause-ends : goal.returns-clause-ends
returns-clause-ends c = λ s disk sound.
    held_ends s disk c.args.inode (tree_block disk c.in_ok-tree.tree) sound
    (λ n. c.in_ok-tree.ensures.blocks disk n ∙ c.settled_files_are_as_held.ensures _ s disk c.args.inode n sound)

pub returns-clause-base : goal.returns-clause-base
returns-clause-base c = starts_based c.args.inode c.in_ok-tree.tree c.in_ok-tree.ensures.settled
