use Rattle.std.proofs.Common.{arith}
use Rattle.std.proofs.lemmas.Bool.{le-leb, leb-true}
use Rattle.system.proofs.system.System.has_room_behind.Goals as goal

pub returns : goal.returns
returns g c = λ v sized.
    let cost = c.cost_of.ensures.cost v sized in
    let headroom = c.headroom_of.ensures.headroom v sized in (
      λ yes. omega (arith, leb-true _ _ yes, c.cost_of_point.ensures.is, cost, headroom, c.saturating_sub-left.ensures, c.saturating_sub.ensures, c.pledged.ensures, c.from.ensures),
      λ fits. le-leb _ _ (omega (arith, fits, c.cost_of_point.ensures.is, cost, headroom, c.saturating_sub-left.ensures, c.saturating_sub.ensures, c.pledged.ensures, c.from.ensures)),
    )
