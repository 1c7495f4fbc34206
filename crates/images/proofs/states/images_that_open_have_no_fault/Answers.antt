use Rattle.images.proofs.FaultLaws as laws
use Rattle.images.proofs.states.images_that_open_have_no_fault.Goals as goal

pub returns-clause-under : goal.returns-clause-under
returns-clause-under c = laws.opens_faultless

pub returns-clause-all : goal.returns-clause-all
returns-clause-all c = laws.opens_without_fault
