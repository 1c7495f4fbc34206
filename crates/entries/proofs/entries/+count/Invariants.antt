use Rattle.std.proofs.Common.{length}
use Rattle.entries.proofs.entries.+count.Given as goal

abbrev pub decreases-count : goal.decreases-count
decreases-count l = length l.bytes.now
