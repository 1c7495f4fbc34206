use Rattle.handles.proofs.TellLemmas.{handles_tell}
use Rattle.handles.proofs.telling.handles_tell_objects.Goals as goal

pub returns : goal.returns
returns g c = handles_tell
