use Rattle.conspoint.proofs.Cuts as cuts
use Rattle.conspoint.proofs.laws.cuts_leave_blocks.Goals as goal

pub returns-clause-before : goal.returns-clause-before
returns-clause-before c = cuts.before

pub returns-clause-after : goal.returns-clause-after
returns-clause-after c = cuts.after

pub returns-clause-planned : goal.returns-clause-planned
returns-clause-planned c = cuts.planned
