use Rattle.std.proofs.Common.{length}
use Rattle.checker.proofs.names.+count_entries.Given as goal

abbrev pub decreases-count_entries : goal.decreases-count_entries
decreases-count_entries l = length l.bytes.now
