use Rattle.std.proofs.Common.{◌≡◌, ◌/◌, Ok, length, ap, sym, subst, ◌∙◌, arith}
use Rattle.layout.specs.declared.pointer.Pointer.TheVariants.{Block}
use Rattle.conspoint.specs.Groups.{pointer_at}
use Rattle.conspoint.specs.MapFiles.{PlansMap}
use Rattle.conspoint.proofs.MapPlan.{Steps, plans, nodes_below}
use Rattle.conspoint.proofs.MapWork.{own_inode}
use Rattle.conspoint.specs.Steps.{Takes}
use Rattle.conspoint.proofs.StepLemmas.{keeps_take, puts_take, puts_then, takes_err, takes_ok, takes_then}
use Rattle.conspoint.proofs.map_inode.store_nodes.Goals as goal

pub mark_moved-requires-2-clause-within : goal.mark_moved-requires-2-clause-within
mark_moved-requires-2-clause-within c k b is =
    let taken = c.in_ok-reserve_map.ensures.taken k b is in
    omega (arith, taken.within, c.reserve_map.ensures.step.grows.count, c.mark_moved.ensures.step.grows.count)

pub mark_moved-requires-2-clause-room : goal.mark_moved-requires-2-clause-room
mark_moved-requires-2-clause-room c k b some is =
    c.mark_moved.ensures.step.grows.settled.touched (b / 1024) (c.in_ok-reserve_map.ensures.closed.new k b is)

pub store_map-requires-clause-reserved : goal.store_map-requires-clause-reserved
store_map-requires-clause-reserved c k b is =
    c.mark_moved-2.ensures.step.others b (c.mark_moved.ensures.step.others b (c.in_ok-reserve_map.ensures.closed.reserved k b is))

pub store_map-requires-clause-apart : goal.store_map-requires-clause-apart
store_map-requires-clause-apart c i k b is_i is_k =
    c.in_ok-reserve_map.ensures.closed.apart i k b is_i is_k

pub returns-in_err-store_map-clause-step : goal.returns-in_err-store_map-clause-step
returns-in_err-store_map-clause-step c =
    let marked : Takes {T = Unit {0}} (length c.args.settled.now) c.args.draft.now c.mark_moved-2.new.draft (Ok tt) =
    takes_then (takes_then {k = length c.args.places.now} c.in_ok-reserve_map.ensures.step (keeps_take {T = Unit {0}} {y = tt} c.mark_moved.ensures.step) (omega arith)) (keeps_take {T = Unit {0}} {y = tt} c.mark_moved-2.ensures.step) (omega (arith, c.requires.same)) in
    takes_err c.from_residual-in_err-store_map.result c.from_residual-in_err-store_map.ensures.1 (puts_take marked c.in_err-store_map.ensures.step (λ p is.
    c.store_map.ensures.others p (c.mark_moved-2.ensures.step.others p (c.mark_moved.ensures.step.others p (c.reserve_map.ensures.step.others p is))) (λ k lt at.
    let taken = c.in_ok-reserve_map.ensures.taken k p at in
    let low = is.below in
    absurd (omega (arith, taken.from, low)))))

pub store_over-requires-clause-within : goal.store_over-requires-clause-within
store_over-requires-clause-within c k =
    nodes_below c.args.draft.now c.reserve_map.new.draft c.args.settled.now c.reserve_map.new.places c.requires.within
    (λ i b is. c.in_ok-reserve_map.ensures.taken i b is) k

pub store_over-requires-clause-reserved : goal.store_over-requires-clause-reserved
store_over-requires-clause-reserved c b is =
    let count = c.map_blocks-count.result in
    let at : pointer_at c.reserve_map.new.places count ≡ Block b = sym c.place_of.ensures ∙ is in
    let closed = c.in_ok-reserve_map.ensures.closed in
    c.store_map.ensures.others b (c.mark_moved-2.ensures.step.others b (c.mark_moved.ensures.step.others b (closed.reserved count b at))) (λ k lt at_k.
    let one : k ≡ count = closed.apart k count b at_k at in
    absurd (omega (arith, one, lt, c.map_blocks-count.ensures, c.reserve_map.ensures.step.grows.settled.count, c.mark_moved.ensures.step.grows.settled.count, c.mark_moved-2.ensures.step.grows.settled.count)))

pub returns-in_err-store_over-clause-step : goal.returns-in_err-store_over-clause-step
returns-in_err-store_over-clause-step c =
    let marked : Takes {T = Unit {0}} (length c.args.settled.now) c.args.draft.now c.mark_moved-2.new.draft (Ok tt) =
    takes_then (takes_then {k = length c.args.places.now} c.in_ok-reserve_map.ensures.step (keeps_take {T = Unit {0}} {y = tt} c.mark_moved.ensures.step) (omega arith)) (keeps_take {T = Unit {0}} {y = tt} c.mark_moved-2.ensures.step) (omega (arith, c.requires.same)) in
    takes_err c.from_residual-in_err-store_over.result c.from_residual-in_err-store_over.ensures.1
    (puts_take marked (puts_then c.in_ok-store_map.ensures.step c.in_err-store_over.ensures.step) (λ p is.
    let count = c.map_blocks-count.result in
    let low = is.below in
    c.store_over.ensures.others p
    (λ at. let taken = c.in_ok-reserve_map.ensures.taken count p (sym c.place_of.ensures ∙ at) in omega (arith, taken.from, low))
    (c.store_map.ensures.others p (c.mark_moved-2.ensures.step.others p (c.mark_moved.ensures.step.others p (c.reserve_map.ensures.step.others p is))) (λ k lt at.
    let taken = c.in_ok-reserve_map.ensures.taken k p at in
    absurd (omega (arith, taken.from, low))))))

pub returns-clause-step : goal.returns-clause-step
returns-clause-step c =
    let marked : Takes {T = Unit {0}} (length c.args.settled.now) c.args.draft.now c.mark_moved-2.new.draft (Ok tt) =
    takes_then (takes_then {k = length c.args.places.now} c.in_ok-reserve_map.ensures.step (keeps_take {T = Unit {0}} {y = tt} c.mark_moved.ensures.step) (omega arith)) (keeps_take {T = Unit {0}} {y = tt} c.mark_moved-2.ensures.step) (omega (arith, c.requires.same)) in
    takes_ok (puts_take marked (puts_then c.in_ok-store_map.ensures.step c.in_ok-store_over.ensures.step) (λ p is.
    let count = c.map_blocks-count.result in
    let low = is.below in
    c.store_over.ensures.others p
    (λ at. let taken = c.in_ok-reserve_map.ensures.taken count p (sym c.place_of.ensures ∙ at) in omega (arith, taken.from, low))
    (c.store_map.ensures.others p (c.mark_moved-2.ensures.step.others p (c.mark_moved.ensures.step.others p (c.reserve_map.ensures.step.others p is))) (λ k lt at.
    let taken = c.in_ok-reserve_map.ensures.taken k p at in
    absurd (omega (arith, taken.from, low))))))

pub returns-clause-planned : goal.returns-clause-planned
returns-clause-planned c =
    let settled = c.args.settled.now in
    let places = c.reserve_map.new.places in
    let d1 = c.reserve_map.new.draft in
    let steps : Steps c.args.draft.now d1 c.mark_moved.new.draft c.mark_moved-2.new.draft c.store_map.new.draft c.store_over.new.draft settled places c.top_pointers-pointers.result c.map_blocks-count.result c.first_top.result c.place_of.result = record {
      count = c.map_blocks-count.ensures;
      first_is = c.first_top.ensures;
      over_is = c.place_of.ensures;
      parts = c.requires.parts;
      nodes = c.requires.nodes;
      within = c.requires.within;
      size = c.reserve_map.ensures.size ∙ c.requires.same;
      reserve_grows = c.reserve_map.ensures.step.grows;
      out_grows = c.mark_moved.ensures.step.grows;
      in_grows = c.mark_moved-2.ensures.step.grows;
      store_grows = c.store_map.ensures.step.grows;
      over_grows = c.store_over.ensures.step.grows;
      store_map = c.store_map.ensures.step.map;
      over_map = c.store_over.ensures.step.map;
      taken = c.in_ok-reserve_map.ensures.taken;
      closed = c.in_ok-reserve_map.ensures.closed;
      moved = c.in_ok-reserve_map.ensures.parts;
      over_moved = c.in_ok-reserve_map.ensures.over;
      entries = c.reserve_map.ensures.entries;
      out_same = c.mark_moved.ensures.same;
      in_same = c.mark_moved-2.ensures.same;
      out = c.mark_moved.ensures.marked;
      into = c.mark_moved-2.ensures.marked;
      stored = c.in_ok-store_map.ensures.stored;
      over_size = c.in_ok-store_over.ensures.size;
      over_spelled = c.in_ok-store_over.ensures.spelled;
      tops_size = c.top_pointers-pointers.ensures.size;
      tops_are = c.top_pointers-pointers.ensures.pointers;
    } in
    let counts : c.store_over.new.draft.map.count ≡ c.args.draft.now.map.count =
    c.store_over.ensures.step.grows.count ∙ c.store_map.ensures.step.grows.count ∙ c.mark_moved-2.ensures.step.grows.count ∙ c.mark_moved.ensures.step.grows.count ∙ c.reserve_map.ensures.step.grows.count in
    let inode : c.map_inode.result ≡ own_inode c.top_pointers-pointers.result c.args.draft.now.map.count = c.map_inode.ensures ∙ ap (own_inode c.top_pointers-pointers.result) (c.block_count.ensures ∙ counts) in
    subst (PlansMap c.args.draft.now c.store_over.new.draft settled) (sym inode)
    (plans c.args.draft.now d1 c.mark_moved.new.draft c.mark_moved-2.new.draft c.store_map.new.draft c.store_over.new.draft settled places c.top_pointers-pointers.result c.map_blocks-count.result c.first_top.result c.place_of.result steps)
