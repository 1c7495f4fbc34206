use Rattle.std.proofs.Common.{◌≡◌, ◌≢◌, ℕ, ◌+◌, ◌≤◌, ap, ◌∙◌, arith}
use Rattle.layout.specs.Places.{pointed}
use Rattle.blocktree.specs.PlaceMaps.{place_at}
use Rattle.conspoint.specs.Space.{changed_blocks}
use Rattle.placement.specs.Nodes.{node}
use Rattle.conspoint.proofs.StepLemmas.{places_err, places_ok, places_out, places_then}
use Rattle.placement.proofs.FirstLaws.{first_placed}
use Rattle.placement.proofs.but_first.place_but_first.Goals as goal

pub returns-in_err-first-clause-step : goal.returns-in_err-first-clause-step
returns-in_err-first-clause-step c =
    places_err c.from_residual-in_err-first.result c.from_residual-in_err-first.ensures.1 (places_then c.in_ok-places.ensures.step c.in_err-first.ensures.step (omega arith))

pub returns-in_err-set-clause-step : goal.returns-in_err-set-clause-step
returns-in_err-set-clause-step c =
    places_out {n = changed_blocks c.args.tree.now 1 c.args.count + 1} c.from_residual-in_err-set.result c.from_residual-in_err-set.ensures.1 (places_then c.in_ok-places.ensures.step c.in_ok-first.ensures.step (omega arith))

pub returns-clause-step : goal.returns-clause-step
returns-clause-step c = places_ok (places_then c.in_ok-places.ensures.step c.in_ok-first.ensures.step (omega arith))

pub returns-clause-lowest : goal.returns-clause-lowest
returns-clause-lowest c =
    let lowest = c.in_ok-places.ensures.lowest in
    let given = c.in_ok-first.ensures in
    let set = c.in_ok-set.ensures in
    let later : (i : ℕ) → 1 ≤ i → place_at c.set.new.self i ≡ place_at c.in_ok-places.places i = λ i some. (let other : i ≢ 0 = omega arith in set.others i other) in
    record {
      end = λ i past. later i (omega arith) ∙ lowest.end i past;
      placed = first_placed c.args.draft.now c.place_lowest.new.draft c.reserve.new.self (node c.args.settled.now 0) c.in_ok-places.places c.set.new.self c.in_ok-first.first c.in_ok-places.ensures.step.grows given.step.grows
          lowest.placed given.taken given.reserved.low set.there set.others;
      blocks = λ e has i lt some. ap (pointed e) (later i some) ∙ lowest.blocks e (given.step.grows.has e has) i lt some;
      unchanged = λ i lt some not. later i some ∙ lowest.unchanged i lt some not;
      whole = lowest.whole;
    }

pub returns-clause-layout : goal.returns-clause-layout
returns-clause-layout c = c.set.ensures.layout ∙ c.in_ok-places.ensures.layout
