use Rattle.std.proofs.Common.{◌<◌, subst, sym}
use Rattle.entries.specs.declared.TheConstants.{HASHES}
use Rattle.entries.proofs.Once.{hash_below}
use Rattle.entries.proofs.summary.Summary.skim.Goals as goal

pub has_marks-requires : goal.has_marks-requires
has_marks-requires c = subst (λ n. n < HASHES) (sym c.requires) (hash_below c.args.name.now)
