use Rattle.std.proofs.Common.{sym, subst, List}
use Rattle.layout.specs.Directory.{Named, HoldsEntries}
use Rattle.entries.proofs.MissingLaws.{without-missing}
use Rattle.entries.proofs.entries.remove.Goals as goal

pub returns-in_default-clause-holds : goal.returns-in_default-clause-holds
returns-in_default-clause-holds c = λ entries holds.
    let none = c.in_default.ensures.missing entries holds in
    subst (λ (es : List Named). HoldsEntries c.args.inodes c.args.bytes.now es) (sym (without-missing c.args.name.now entries none)) holds
