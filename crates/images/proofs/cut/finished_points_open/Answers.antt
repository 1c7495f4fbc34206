use Rattle.images.proofs.CutLaws as laws
use Rattle.images.proofs.cut.finished_points_open.Goals as goal

pub returns : goal.returns
returns c = λ sectors d e nvram s writes sector new v step rest last o point has.
    laws.new_opens sectors d e nvram s writes sector new v step o point has rest last
