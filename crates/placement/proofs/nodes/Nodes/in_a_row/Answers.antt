use Rattle.std.proofs.Common.{All, sym, subst}
use Rattle.std.proofs.lemmas.List.Elements.{All-push}
use Rattle.layout.specs.Pointer.{PointsBelow}
use Rattle.placement.proofs.nodes.Nodes.in_a_row.Goals as goal

pub returns-clause-within : goal.returns-clause-within
returns-clause-within c = λ blocks within.
    subst (All (PointsBelow blocks)) (sym c.in_ok-push-2.ensures.items)
    (All-push (PointsBelow blocks) c.loop-i.all.items c.at-2.result (c.loop-i.invariant.within blocks within) (subst (PointsBelow blocks) (sym c.at-2.ensures) (within 1 0)))
