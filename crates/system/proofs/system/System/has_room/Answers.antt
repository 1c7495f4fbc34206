use Rattle.std.proofs.Common.{arith}
use Rattle.std.proofs.lemmas.Bool.{le-leb, leb-true}
use Rattle.system.proofs.system.System.has_room.Goals as goal

pub returns-clause-logs : goal.returns-clause-logs
returns-clause-logs g c = λ yes v sized.
    omega (arith, leb-true _ _ yes, c.cost_of_point.ensures.is, c.cost_of.ensures.cost v sized, c.saturating_sub.ensures, c.from.ensures)

pub returns-clause-told : goal.returns-clause-told
returns-clause-told g c = λ v sized.
    let cost = c.cost_of.ensures.cost v sized in
    let headroom = c.headroom_of.ensures.headroom v sized in (
      λ yes. omega (arith, leb-true _ _ yes, c.cost_of_point.ensures.is, cost, headroom, c.saturating_sub.ensures, c.from.ensures),
      λ fits. le-leb _ _ (omega (arith, fits, c.cost_of_point.ensures.is, cost, headroom, c.saturating_sub.ensures, c.from.ensures)),
    )
