use Rattle.std.proofs.Common.{subst, sym}
use Rattle.std.proofs.lemmas.Result.{on_ok_weaker}
use Rattle.making.specs.Images.{HasClosedHalves}
use Rattle.making.proofs.clearing.clear.Goals as goal

pub returns-clause-cleared : goal.returns-clause-cleared
returns-clause-cleared g c honest =
    let half = c.args.geometry.half in
    let honest1 = c.close_halves.ensures.same.honest.0 honest in
    let closed = c.in_ok-close_halves.ensures.closed honest in
    on_ok_weaker c.empty_slots.result (λ empties. record {
      slots = empties.slots;
      halves = subst (HasClosedHalves half) (sym empties.nvram) closed;
    }) (c.empty_slots.ensures.emptied honest1)
