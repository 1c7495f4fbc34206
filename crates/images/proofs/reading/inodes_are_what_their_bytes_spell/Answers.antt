use Rattle.images.proofs.ReadingLaws as laws
use Rattle.images.proofs.reading.inodes_are_what_their_bytes_spell.Goals as goal

pub returns-clause-spelled : goal.returns-clause-spelled
returns-clause-spelled c = laws.read_spelled

pub returns-clause-past : goal.returns-clause-past
returns-clause-past c = laws.read_past
