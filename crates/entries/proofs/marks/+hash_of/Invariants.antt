use Rattle.std.proofs.Common.{length}
use Rattle.entries.proofs.marks.+hash_of.Given as goal

abbrev pub decreases-hash_of : goal.decreases-hash_of
decreases-hash_of l = length l.name.now
