use Rattle.oplog.proofs.Covering.{older_covered}
use Rattle.oplog.proofs.laws.roots_cover_the_older_epoch.Goals as goal

pub returns : goal.returns
returns c = older_covered
