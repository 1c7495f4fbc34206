use Rattle.images.proofs.OverlayLaws as laws
use Rattle.images.proofs.point.files_stand_inline.Goals as goal

pub returns-clause-content : goal.returns-clause-content
returns-clause-content c = laws.inline_content

pub returns-clause-names : goal.returns-clause-names
returns-clause-names c = laws.inline_names
