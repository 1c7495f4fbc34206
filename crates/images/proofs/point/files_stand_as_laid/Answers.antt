use Rattle.images.proofs.OverlayLaws as laws
use Rattle.images.proofs.point.files_stand_as_laid.Goals as goal

pub returns-clause-content : goal.returns-clause-content
returns-clause-content c = λ d e old o f taken out. laws.content_stands d e old o f taken out.table out.same out.laid

pub returns-clause-comes : goal.returns-clause-comes
returns-clause-comes c = λ d e old o f taken b out. laws.comes_stands d e old o f taken out.table out.same out.laid b

pub returns-clause-once : goal.returns-clause-once
returns-clause-once c = λ d e old o f taken out. laws.once_stands d e old o f taken out.table out.same out.laid
