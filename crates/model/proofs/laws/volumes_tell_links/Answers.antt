use Rattle.model.proofs.LinkLemmas.{volumes_tell_links}
use Rattle.model.proofs.laws.volumes_tell_links.Goals as goal

pub returns : goal.returns
returns c = volumes_tell_links
