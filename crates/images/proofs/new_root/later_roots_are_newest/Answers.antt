use Rattle.images.proofs.NewRootLaws as laws
use Rattle.images.proofs.new_root.later_roots_are_newest.Goals as goal

pub returns-clause-second : goal.returns-clause-second
returns-clause-second c = laws.newest_second

pub returns-clause-first : goal.returns-clause-first
returns-clause-first c = laws.newest_first
