use Rattle.mount.proofs.RunLemmas.{run_opens, run_failed}
use Rattle.mount.proofs.prefix.cut_opens_to_prefix.Goals as goal

pub returns-clause-going : goal.returns-clause-going
returns-clause-going g c old new steps other is run reads = run_opens old new steps (g.T.Station.meaning other) is run reads

pub returns-clause-failed : goal.returns-clause-failed
returns-clause-failed g c old new steps images is run left = run_failed old new steps is run images left
