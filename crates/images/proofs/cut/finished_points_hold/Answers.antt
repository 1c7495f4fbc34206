use Rattle.layout.specs.Places.{blocks_of}
use Rattle.images.proofs.CutLaws as laws
use Rattle.images.proofs.cut.finished_points_hold.Goals as goal

pub returns-clause-newest : goal.returns-clause-newest
returns-clause-newest c = laws.new_newest

pub returns-clause-holds : goal.returns-clause-holds
returns-clause-holds c = laws.new_holds

pub returns-clause-free : goal.returns-clause-free
returns-clause-free c = λ sectors d e nvram s writes sector new v step spent o point has leaves.
    leaves (blocks_of e) (laws.written sectors d e nvram s writes sector new v step o point has) (laws.needs_stay sectors d e nvram s writes sector new v step o point has)
