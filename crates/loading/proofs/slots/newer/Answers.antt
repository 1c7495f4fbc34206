use Rattle.std.proofs.Common.{subst}
use Rattle.loading.specs.Slots.{TellsRoot}
use Rattle.loading.proofs.slots.newer.Goals as goal

pub returns-in-Some-Some-clause-only : goal.returns-in-Some-Some-clause-only
returns-in-Some-Some-clause-only c disk first second r newest =
    c.newer_root.ensures.only disk (subst (TellsRoot (disk 0)) c.in-Some-Some.is-0 first) (subst (TellsRoot (disk 8)) c.in-Some-Some.is-1 second) r newest
