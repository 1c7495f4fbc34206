use Rattle.std.proofs.Common.{length}
use Rattle.dirs.proofs.directory.+add_each.Given as goal

abbrev pub decreases-add_each : goal.decreases-add_each
decreases-add_each l = length l.bytes.now
