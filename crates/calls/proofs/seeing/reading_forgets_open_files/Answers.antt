use Rattle.calls.proofs.SeeLaws.{reading_forgets}
use Rattle.calls.proofs.seeing.reading_forgets_open_files.Goals as goal

pub returns : goal.returns
returns c = reading_forgets
