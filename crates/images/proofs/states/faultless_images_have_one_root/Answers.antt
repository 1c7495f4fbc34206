use Rattle.images.proofs.FaultLaws as laws
use Rattle.images.proofs.states.faultless_images_have_one_root.Goals as goal

pub returns : goal.returns
returns c = laws.under_any
