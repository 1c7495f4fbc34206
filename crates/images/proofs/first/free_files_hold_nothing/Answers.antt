use Rattle.images.proofs.EmptyLaws as laws
use Rattle.images.proofs.first.free_files_hold_nothing.Goals as goal

pub returns-clause-sound : goal.returns-clause-sound
returns-clause-sound c = laws.free_sound

pub returns-clause-none : goal.returns-clause-none
returns-clause-none c = laws.free_named
