use Rattle.images.proofs.ReadingLaws as laws
use Rattle.images.proofs.reading.snapshots_are_what_their_bytes_spell.Goals as goal

pub returns : goal.returns
returns c = laws.read_snapshot
