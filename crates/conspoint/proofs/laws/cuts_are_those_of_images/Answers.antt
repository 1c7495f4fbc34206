use Rattle.conspoint.proofs.ImageCuts as cuts
use Rattle.conspoint.proofs.laws.cuts_are_those_of_images.Goals as goal

pub returns-clause-unfinished : goal.returns-clause-unfinished
returns-clause-unfinished c = cuts.unfinished

pub returns-clause-finished : goal.returns-clause-finished
returns-clause-finished c = cuts.finished

pub returns-clause-lost : goal.returns-clause-lost
returns-clause-lost c = cuts.lost
