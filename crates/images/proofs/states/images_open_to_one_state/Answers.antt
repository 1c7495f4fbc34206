use Rattle.images.proofs.StateLaws as laws
use Rattle.images.proofs.states.images_open_to_one_state.Goals as goal

pub returns : goal.returns
returns c = laws.opens_once
