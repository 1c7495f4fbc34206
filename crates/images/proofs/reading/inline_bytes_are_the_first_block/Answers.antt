use Rattle.images.proofs.ReadingLaws as laws
use Rattle.images.proofs.reading.inline_bytes_are_the_first_block.Goals as goal

pub returns-clause-first : goal.returns-clause-first
returns-clause-first c = laws.inline_first

pub returns-clause-others : goal.returns-clause-others
returns-clause-others c = laws.inline_others
