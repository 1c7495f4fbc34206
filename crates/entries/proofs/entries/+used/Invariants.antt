use Rattle.std.proofs.Common.{length}
use Rattle.entries.proofs.entries.+used.Given as goal

abbrev pub decreases-used : goal.decreases-used
decreases-used l = length l.bytes.now
