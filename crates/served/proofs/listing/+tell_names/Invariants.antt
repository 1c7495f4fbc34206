use Rattle.std.proofs.Common.{length}
use Rattle.served.proofs.listing.+tell_names.Given as goal

abbrev pub decreases-tell_names : goal.decreases-tell_names
decreases-tell_names g l = length l.names.now
