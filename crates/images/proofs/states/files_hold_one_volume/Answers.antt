use Rattle.images.proofs.VolumeLaws as laws
use Rattle.images.proofs.states.files_hold_one_volume.Goals as goal

pub returns : goal.returns
returns c = laws.volume_once
