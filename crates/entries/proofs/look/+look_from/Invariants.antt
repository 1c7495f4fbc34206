use Rattle.std.proofs.Common.{length}
use Rattle.entries.proofs.look.+look_from.Given as goal

abbrev pub decreases-look_from : goal.decreases-look_from
decreases-look_from l = length l.bytes.now
