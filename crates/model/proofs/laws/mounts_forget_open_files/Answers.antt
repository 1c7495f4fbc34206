use Rattle.model.proofs.MountLemmas.{mounts_forget}
use Rattle.model.proofs.laws.mounts_forget_open_files.Goals as goal

pub returns : goal.returns
returns c = mounts_forget
