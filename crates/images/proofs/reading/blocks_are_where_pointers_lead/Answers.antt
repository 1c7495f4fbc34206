use Rattle.images.proofs.ReadingLaws as laws
use Rattle.images.proofs.reading.blocks_are_where_pointers_lead.Goals as goal

pub returns : goal.returns
returns c = λ detail s d f pointers i sound body. laws.blocks_are s d f pointers sound body i
