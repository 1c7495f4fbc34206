use Rattle.std.proofs.Common.{◌≡◌, ℕ, suc, ◌+◌, ◌-◌, ◌*◌, ◌<◌, ◌≤◌, List, length, Ok, Result, refl, ap, sym, subst, ◌∙◌, arith}
use Rattle.std.specs.Int.{div_ceil}
use Rattle.std.proofs.lemmas.Option.{slice_get_past}
use Rattle.layout.specs.Pointer.{PointsBelow}
use Rattle.layout.specs.Trees.{fan_out}
use Rattle.layout.specs.declared.trees.Layout.{Layout}
use Rattle.layout.specs.declared.pointer.Pointer.TheVariants.{Hole}
use Rattle.images.specs.Sums.{sum_below}
use Rattle.images.proofs.SumLaws.{is_in_sum}
use Rattle.blocktree.specs.Names.{nodes_at}
use Rattle.blocktree.specs.PlaceMaps.{place_at}
use Rattle.blocktree.specs.declared.place_map.PlaceMap.{PlaceMap}
use Rattle.conspoint.specs.Groups.{group}
use Rattle.conspoint.specs.Steps.{Places, PlacesOver}
use Rattle.conspoint.specs.declared.draft.Draft.{Draft}
use Rattle.conspoint.specs.declared.error.PlanError.{PlanError}
use Rattle.conspoint.proofs.GroupLemmas.{same_follows, same_group}
use Rattle.conspoint.proofs.StepLemmas.{places_err, places_none, places_ok, places_out, places_then}
use Rattle.placement.specs.declared.nodes.Nodes.{Nodes}
use Rattle.placement.specs.Nodes.{ArePlacedAt, ArePlacedIn, AreWithin, HaveLayout, height_of, in_group, node, under}
use Rattle.placement.specs.Steps.{PlacesHeights, raise_stores}
use Rattle.placement.proofs.HeldLaws.{first_nodes}
use Rattle.placement.proofs.PlacedLaws.{all_within, node_last, node_over, node_pushed, none_placed, one_placed, placed_both, placed_same}
use Rattle.placement.proofs.FanLemmas.{group_is, groups_fall, groups_few, groups_over}
use Rattle.placement.proofs.RaiseLaws.{IsStill, alike_pushed, end_pushed, height_pushed, nodes_next, over_pushed, placed_heights, raise_step, still_first, still_pushed}
use Rattle.placement.proofs.raising.raise_all.Goals as goal
use Rattle.placement.proofs.raising.raise_all.Goals.{After-height-below}

pub loop-height-init : goal.loop-height-init
loop-height-init c =
    let count = c.args.count in
    let l = c.args.settled.now.layout in
    let old : Nodes = record { layout = l; heights = c.new.result } in
    let new : Nodes = record { layout = l; heights = c.push.new.self } in
    let is_new = c.in_ok-push.ensures.items in
    let none : height_of old ≡ 0 = ap (λ (xs : List PlaceMap). length xs) c.new.ensures.items in
    let heights : height_of new ≡ 1 = omega (arith, height_pushed old new c.args.lowest is_new, none) in
    let first : 0 ≡ 1 - 1 = omega arith in
    record {
      step = λ w counts. places_none c.args.draft.now;
      layout = refl;
      alike = alike_pushed old new c.args.lowest is_new refl c.requires.layout (λ m. subst (HaveLayout l) (sym (slice_get_past old.heights.items m (omega (arith, none)))) tt);
      heights = heights;
      groups = sym (first_nodes l count) ∙ ap (nodes_at l count) first;
      few = omega arith;
      lowest = λ i. node_last old new c.args.lowest 0 i is_new (sym none);
      end = end_pushed l old new c.args.lowest count 0 count is_new none (sym (first_nodes l count)) c.requires.end (λ m i past. node_over old m i (omega (arith, none)));
      over = λ e has m j lt. absurd (omega (arith, lt, heights));
      still = λ h j low.
          let is : 0 ≡ h = omega (arith, low) in
          subst (λ (k : ℕ). IsStill c.args.settled.now c.args.lowest k j (node new k j)) is (still_first c.args.settled.now new c.args.lowest j (node_last old new c.args.lowest 0 j is_new (sym none)));
      placed = none_placed c.args.draft.now c.args.draft.now c.args.settled.now new 1;
    }

-- one group for as many nodes as an indirect block has pointers
groups_are : (c : After-height-below) → c.div_ceil-groups.result ≡ div_ceil c.loop-height.groups (fan_out c.args.settled.now.layout)
groups_are c = c.div_ceil-groups.ensures ∙ ap (div_ceil c.loop-height.groups) c.fan_out.ensures.value

pub raise-requires-clause-few : goal.raise-requires-clause-few
raise-requires-clause-few c =
    groups_few c.args.settled.now.layout c.loop-height.groups c.div_ceil-groups.result (groups_are (goal.at.raise-requires-clause-few c).After-height-below)
    (omega (arith, c.requires.few, c.loop-height.invariant.few))

pub raise-requires-clause-layout : goal.raise-requires-clause-layout
raise-requires-clause-layout c = c.height-below.ensures.layout c.loop-height.invariant.alike ∙ c.loop-height.invariant.layout

pub raise-requires-clause-height : goal.raise-requires-clause-height
raise-requires-clause-height c = omega (arith, c.loop-height.auto.height, c.loop-height-test.true, c.ranges.level.fits)

pub raise-requires-clause-within : goal.raise-requires-clause-within
raise-requires-clause-within c = λ i.
    let so_far = c.loop-height.invariant in
    let h = c.loop-height.height in
    let grows = (placed_heights c.args.count h c.args.settled.now c.args.lowest so_far.step).grows in
    subst (PointsBelow c.loop-height.draft.map.count) (sym (c.height-below.ensures.nodes i))
    (all_within c.loop-height.draft.map.count h c.args.draft.now c.loop-height.draft c.args.settled.now c.loop-height.nodes c.args.lowest grows.count so_far.heights c.requires.within so_far.lowest so_far.placed (h - 1) i)

pub raise-requires-clause-settled : goal.raise-requires-clause-settled
raise-requires-clause-settled c =
    let grows = (placed_heights c.args.count c.loop-height.height c.args.settled.now c.args.lowest c.loop-height.invariant.step).grows in
    subst (λ (n : ℕ). AreWithin n c.args.settled.now) (sym grows.count) c.requires.settled.within

-- with the nodes over the last height that is placed, a level over all of these takes what its heights do
more : {T : Type 0} {d : Draft} {r : Result T PlanError} (level : ℕ) (c : After-height-below) → c.loop-height.height < level
    → PlacesOver c.div_ceil-groups.result (under c.args.settled.now (c.loop-height.height - 1)) (group c.height-below.result.now) c.loop-height.draft d r
    → PlacesHeights c.args.count level c.args.settled.now c.args.lowest c.args.draft.now d r
more {d = d} level c low step = λ w counts.
    let so_far = c.loop-height.invariant in
    let h = c.loop-height.height in
    let m = h - 1 in
    let count = c.args.count in
    let some : 1 ≤ h = c.loop-height.auto.height in
    let top : suc m ≡ h = omega (arith, some) in
    let l = c.args.settled.now.layout in
    let groups : c.div_ceil-groups.result ≡ nodes_at l count h = groups_are c ∙ nodes_next l count h c.loop-height.groups some so_far.groups in
    places_then (so_far.step w (λ k j one le. counts k j one (omega (arith, le, low))))
    (raise_step count m c.div_ceil-groups.result w c.args.settled.now c.loop-height.nodes c.args.lowest c.height-below.result.now c.loop-height.draft d so_far.layout (c.height-below.ensures.layout so_far.alike) (groups ∙ ap (nodes_at l count) (sym top))
    c.height-below.ensures.nodes
    (λ j. so_far.still m j (omega (arith, top)))
    (λ j. counts (suc m) j (omega arith) (omega (arith, top, low)))
    step)
    (subst (λ (k : ℕ). sum_below (raise_stores l count w) h + raise_stores l count w k ≤ sum_below (raise_stores l count w) level) (sym top) (is_in_sum (raise_stores l count w) h level low))

pub loop-height-preserved : goal.loop-height-preserved
loop-height-preserved c =
    let so_far = c.loop-height.invariant in
    let h = c.loop-height.height in
    let count = c.args.count in
    let lowest = c.args.lowest in
    let settled = c.args.settled.now in
    let old = c.loop-height.nodes in
    let new : Nodes = record { layout = old.layout; heights = c.push-in-loop-height.new.self } in
    let l = settled.layout in
    let over = c.in_ok-over.over in
    let raised = c.in_ok-over.ensures in
    let is = c.in_ok-push-2.ensures.items in
    let groups = c.div_ceil-groups.result in
    let some : 1 ≤ h = c.loop-height.auto.height in
    let each = groups_are (goal.at.loop-height-preserved c).After-height-below in
    let all : groups ≡ nodes_at l count h = each ∙ nodes_next l count h c.loop-height.groups some so_far.groups in
    let top : suc (h - 1) ≡ h = omega (arith, some) in
    let next : h ≡ h + 1 - 1 = omega arith in
    let before = (placed_heights count h settled lowest so_far.step).grows in
    let below = c.height-below.ensures in
    let group_as = λ (j i : ℕ). group_is old c.height-below.result.now (h - 1) (below.layout so_far.alike) below.nodes j i in
    let past : (i : ℕ) → fan_out old.layout * groups ≤ i → node old (h - 1) i ≡ Hole = λ i le.
    so_far.end (h - 1) i (groups_over l (nodes_at l count (h - 1)) groups i (each ∙ ap (λ (n : ℕ). div_ceil n (fan_out l)) so_far.groups) (subst (λ (k : Layout). fan_out k * groups ≤ i) so_far.layout le)) in
    record {
      step = λ w counts. places_ok (more (h + 1) (goal.at.loop-height-preserved c).After-height-below (omega arith) raised.step w counts);
      heights = height_pushed old new over is ∙ ap (λ (n : ℕ). n + 1) so_far.heights;
      layout = so_far.layout;
      alike = alike_pushed old new over is refl (raised.layout ∙ sym so_far.layout) so_far.alike;
      groups = all ∙ ap (nodes_at l count) next;
      few = omega (arith, so_far.few, each, groups_fall l c.loop-height.groups);
      lowest = λ i. node_pushed old new over 0 i is (omega (arith, so_far.heights, some)) ∙ so_far.lowest i;
      end = end_pushed l old new over count h groups is so_far.heights all raised.end so_far.end;
      over = λ e has. over_pushed e settled old new over (h - 1) groups is refl (so_far.heights ∙ sym top) (so_far.over e (raised.step.grows.has e has)) raised.end past
          (λ j lt. same_group e (node settled (suc (h - 1)) j) (place_at over j) (under settled (h - 1) j) (under settled (h - 1) j) (in_group old (h - 1) j) (group c.height-below.result.now j)
          (λ i small. refl) (λ i small. group_as j i) (raised.groups e has j lt));
      still = still_pushed settled old new lowest over (h - 1) h groups is so_far.layout so_far.heights top c.requires.settled.full raised.end past
          (λ j lt. same_follows (node settled (suc (h - 1)) j) (place_at over j) (under settled (h - 1) j) (under settled (h - 1) j) (in_group old (h - 1) j) (group c.height-below.result.now j)
          (λ i small. refl) (λ i small. group_as j i) (raised.follows j lt)) so_far.still;
      placed = placed_both c.args.draft.now c.loop-height.draft c.raise.new.draft settled new 1 h (h + 1) before raised.step.grows
          (placed_same c.args.draft.now c.loop-height.draft settled old new 1 h (λ m i le lt. node_pushed old new over m i is (omega (arith, lt, so_far.heights))) so_far.placed)
          (one_placed c.loop-height.draft c.raise.new.draft settled new h over
          (subst (λ (m : ℕ). ArePlacedAt c.loop-height.draft c.raise.new.draft (node settled m) over) top raised.placed) (λ i. node_last old new over h i is (sym so_far.heights)));
    }

pub returns-in_err-over-clause-step : goal.returns-in_err-over-clause-step
returns-in_err-over-clause-step c = λ w counts.
    places_err c.from_residual-in_err-over.result c.from_residual-in_err-over.ensures.1
    (more c.args.level (goal.at.returns-in_err-over-clause-step c).After-height-below c.loop-height-test.true c.in_err-over.ensures.step w counts)

pub returns-in_err-push-2-clause-step : goal.returns-in_err-push-2-clause-step
returns-in_err-push-2-clause-step c = λ w counts.
    places_out c.from_residual-in_err-push-2.result c.from_residual-in_err-push-2.ensures.1
    (more c.args.level (goal.at.returns-in_err-push-2-clause-step c).After-height-below c.loop-height-test.true c.in_ok-over.ensures.step w counts)

pub returns-clause-step : goal.returns-clause-step
returns-clause-step c = λ w counts.
    let end : c.loop-height.height ≡ c.args.level = omega (arith, c.loop-height-test.false, c.loop-height.auto.height-end, c.requires.level) in
    subst (λ (k : ℕ). Places (sum_below (raise_stores c.args.settled.now.layout c.args.count w) k) c.args.draft.now c.loop-height.draft (Ok c.loop-height.nodes)) end
    (places_ok (c.loop-height.invariant.step w (λ k j one low. counts k j one (omega (arith, low, end)))))

pub returns-clause-raised : goal.returns-clause-raised
returns-clause-raised c =
    let so_far = c.loop-height.invariant in
    let end : c.loop-height.height ≡ c.args.level = omega (arith, c.loop-height-test.false, c.loop-height.auto.height-end, c.requires.level) in
    record {
      layout = so_far.layout;
      heights = so_far.heights ∙ end;
      lowest_are = so_far.lowest;
      end = so_far.end;
      placed = subst (λ (k : ℕ). ArePlacedIn 1 k c.args.draft.now c.loop-height.draft c.args.settled.now c.loop-height.nodes) end so_far.placed;
    }
