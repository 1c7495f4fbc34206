use Rattle.std.proofs.Common.{◌+◌, ◌<◌, ◌≤◌, length, length-set, refl, sym, ◌∙◌, arith, rules}
use Rattle.std.proofs.lemmas.List.{get_or_default}
use Rattle.blockmap.specs.Space.{left}
use Rattle.layout.specs.declared.pointer.Pointer.TheVariants.{Hole, Block}
use Rattle.conspoint.proofs.DraftLemmas.{grows_twice}
use Rattle.conspoint.specs.declared.error.PlanError.TheVariants.{NoSpace}
use Rattle.conspoint.proofs.StepLemmas.{same_error, takes_err}
use Rattle.conspoint.proofs.ClosureLemmas.{closed_more, taken_more}
use Rattle.conspoint.proofs.SpaceLemmas.{holes, holes_most, hole_filled, some_hole}
use Rattle.conspoint.proofs.closure.reserve_map.Goals as goal

pub move_node-requires : goal.move_node-requires
move_node-requires c b is =
    let lt : c.in-Some.k < length c.args.settled.now = omega (arith, c.in-Some.ensures.found.0, c.loop-k.invariant.size, c.requires.same) in
    let settled_is = c.index-settled-k.is ∙ get_or_default c.args.settled.now c.in-Some.k c.index-settled-k.result Hole lt in
    omega (arith, c.requires.within c.in-Some.k b (sym settled_is ∙ is), c.loop-k.invariant.grows.count)

pub loop-k-preserved : goal.loop-k-preserved
loop-k-preserved c =
    let so_far = c.loop-k.invariant in
    let k = c.in-Some.k in
    let settled = c.args.settled.now in
    let now = c.move_node.ensures.step.grows in
    let lt : k < length settled = omega (arith, c.in-Some.ensures.found.0, so_far.size, c.requires.same) in
    let settled_is = c.index-settled-k.is ∙ get_or_default settled k c.index-settled-k.result Hole lt in
    record {
      grows = grows_twice c.args.draft.now c.loop-k.draft c.move_node.new.draft so_far.grows now;
      takes = omega (
        arith,
        so_far.takes,
        c.in_ok-move_node.ensures.step.takes,
        hole_filled c.loop-k.places k c.in_ok-move_node.field-0 c.in-Some.ensures.found.0 c.in-Some.ensures.found.1,
        length-set c.loop-k.places k (Block c.in_ok-move_node.field-0),
      );
      size = length-set _ _ _ ∙ so_far.size;
      entries = λ b. c.move_node.ensures.entries b ∙ so_far.entries b;
      others = λ x is. c.move_node.ensures.step.others x (so_far.others x is);
      taken = taken_more c.args.draft.now c.loop-k.draft c.move_node.new.draft c.loop-k.places k c.in_ok-move_node.field-0 so_far.grows now so_far.taken
          c.in-Some.ensures.found.0 c.in_ok-move_node.ensures.taken;
      closed = closed_more c.loop-k.draft c.move_node.new.draft settled c.loop-k.places k c.in_ok-move_node.field-0 now c.move_node.ensures.step.others so_far.closed
          c.in-Some.ensures.found.0 c.in_ok-move_node.ensures.taken.from c.in_ok-move_node.ensures.reserved c.in_ok-move_node.ensures.new
          (λ b is. c.in_ok-move_node.ensures.old b (settled_is ∙ is));
    }

pub returns-in_err-move_node-clause-step : goal.returns-in_err-move_node-clause-step
returns-in_err-move_node-clause-step c =
    let so_far = c.loop-k.invariant in
    let step = c.in_err-move_node.ensures.step in
    takes_err {T = Unit {0}} c.from_residual.result c.from_residual.ensures.1 (record {
      grows = grows_twice c.args.draft.now c.loop-k.draft c.move_node.new.draft so_far.grows step.grows;
      others = λ x is. step.others x (so_far.others x is);
      takes = tt;
      lacks = λ bad. (let few = step.lacks (same_error _ _ NoSpace refl bad) in omega (arith, so_far.takes, so_far.size, few, some_hole c.loop-k.places c.in-Some.k c.in-Some.ensures.found.0 c.in-Some.ensures.found.1));
      shortage = step.shortage;
    })

pub loop-k-init : goal.loop-k-init
loop-k-init c =
    let most : left c.args.draft.now.map + holes c.args.places.now ≤ left c.args.draft.now.map + length c.args.places.now = omega (arith, holes_most c.args.places.now) in
    record {
      grows = search rules;
      takes = most;
      size = search rules;
      entries = search rules;
      others = search rules;
      taken = search rules;
      closed = search rules;
    }
