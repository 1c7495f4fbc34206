use Rattle.std.proofs.Common.{length}
use Rattle.served.proofs.listing.+append_snapshots.Given as goal

abbrev pub decreases-append_snapshots : goal.decreases-append_snapshots
decreases-append_snapshots l = length l.snapshots.now
