use Rattle.images.proofs.FirstLaws as laws
use Rattle.images.proofs.first.first_images_open_to_the_empty_state.Goals as goal

pub returns : goal.returns
returns c = laws.first_opens
