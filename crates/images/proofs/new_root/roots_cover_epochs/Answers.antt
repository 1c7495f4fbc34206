use Rattle.images.proofs.NewRootLaws as laws
use Rattle.images.proofs.new_root.roots_cover_epochs.Goals as goal

pub returns-clause-one : goal.returns-clause-one
returns-clause-one c = laws.covers_one

pub returns-clause-both : goal.returns-clause-both
returns-clause-both c = laws.covers_both
