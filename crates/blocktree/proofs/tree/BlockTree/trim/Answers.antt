use Rattle.std.proofs.Common.{arith, ◌<◌}
use Rattle.blocktree.proofs.SlotLaws.{trimmed_below, trimmed_block, trimmed_changed, trimmed_only, trimmed_room}
use Rattle.blocktree.proofs.tree.BlockTree.trim.Goals as goal

pub returns-clause-blocks : goal.returns-clause-blocks
returns-clause-blocks c = λ disk j. trimmed_block _ disk _ _ _ _ c.args.count c.args.self.now.slots c.truncate_slots.new.slots c.truncate_slots.ensures c.min-self.ensures j

pub returns-clause-keeps : goal.returns-clause-keeps
returns-clause-keeps c = λ j lt had. trimmed_room c.args.self.now.slots c.truncate_slots.new.slots c.args.count c.truncate_slots.ensures j lt had

pub returns-clause-sound : goal.returns-clause-sound
returns-clause-sound c = λ blocks disk i sound same within.
    let below : i < c.args.count = omega arith in
    sound (λ changed. same (trimmed_changed c.args.self.now.slots c.truncate_slots.new.slots c.args.count c.truncate_slots.ensures i below changed)) (omega arith)

pub returns-clause-changed : goal.returns-clause-changed
returns-clause-changed c = λ j had. trimmed_only c.args.self.now.slots c.truncate_slots.new.slots c.args.count c.truncate_slots.ensures j had

pub returns-clause-truncate : goal.returns-clause-truncate
returns-clause-truncate c = λ j had. trimmed_below c.args.self.now.slots c.truncate_slots.new.slots c.args.count c.truncate_slots.ensures j had
