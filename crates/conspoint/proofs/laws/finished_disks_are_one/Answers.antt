use Rattle.conspoint.proofs.FinishedLaws as finished
use Rattle.conspoint.proofs.laws.finished_disks_are_one.Goals as goal

pub returns-clause-is : goal.returns-clause-is
returns-clause-is c p old planned = finished.is p planned old

pub returns-clause-one : goal.returns-clause-one
returns-clause-one c sectors p old new planned = finished.one p planned sectors old new

pub returns-clause-stays : goal.returns-clause-stays
returns-clause-stays c p old new planned = finished.stays p planned old new

pub returns-clause-others : goal.returns-clause-others
returns-clause-others c p disk b planned = finished.others_stay p planned disk b
