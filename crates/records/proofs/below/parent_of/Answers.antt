use Rattle.records.proofs.below.parent_of.Goals as goal

pub returns-clause-parent : goal.returns-clause-parent
returns-clause-parent g c = rw (← c.parent_hint-hint.ensures) c.parent_at.ensures.parent

pub returns-clause-within : goal.returns-clause-within
returns-clause-within g c = rw (← c.parent_hint-hint.ensures) c.parent_at.ensures.within
