use Rattle.images.proofs.BaseLaws as bases
use Rattle.images.proofs.PointLaws as laws
use Rattle.images.proofs.point.trees_are_bases.Goals as goal

pub returns-clause-active : goal.returns-clause-active
returns-clause-active c = laws.active_base

pub returns-clause-frozen : goal.returns-clause-frozen
returns-clause-frozen c = laws.frozen_base

pub returns-clause-steps : goal.returns-clause-steps
returns-clause-steps c = bases.step_base

pub returns-clause-sound : goal.returns-clause-sound
returns-clause-sound c = bases.step_sound
