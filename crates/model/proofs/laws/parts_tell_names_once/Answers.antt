use Rattle.model.proofs.EntryLemmas.{parts_tell_once}
use Rattle.model.proofs.laws.parts_tell_names_once.Goals as goal

pub returns : goal.returns
returns c = parts_tell_once
