use Rattle.images.proofs.CutLaws as laws
use Rattle.images.proofs.cut.lost_slots_open_as_before.Goals as goal

pub returns : goal.returns
returns c = laws.open_without_slot
