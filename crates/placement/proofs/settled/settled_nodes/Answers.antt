use Rattle.std.proofs.Common.{rules, ◌≡◌, inl, inr, ℕ, suc, ◌+◌, ◌-◌, ◌*◌, ◌<◌, ◌≤◌, refl, ap, sym, subst, ◌∙◌, arith}
use Rattle.std.proofs.lemmas.Bool.{cases_lt}
use Rattle.layout.specs.Places.{place}
use Rattle.layout.specs.Pointer.{PointsBelow}
use Rattle.layout.specs.Trees.{fan_out}
use Rattle.blocktree.specs.Names.{nodes_at}
use Rattle.blocktree.specs.Places.{IsPath}
use Rattle.blocktree.specs.PlaceMaps.{EndBefore, place_at}
use Rattle.placement.specs.declared.nodes.Nodes.{Nodes}
use Rattle.placement.specs.Nodes.{height_of, most_groups}
use Rattle.placement.proofs.PlacedLaws.{node_last, node_over, node_pushed}
use Rattle.placement.proofs.RaiseLaws.{alike_pushed, end_pushed, height_pushed, within_pushed}
use Rattle.placement.proofs.HeldLaws.{nodes_fall}
use Rattle.placement.proofs.SettledLaws.{NodeLaws, are_settled, few_over, not_empty, paths_sound}
use Rattle.placement.proofs.settled.settled_nodes.Goals as goal

pub loop-height-preserved : goal.loop-height-preserved
loop-height-preserved g c =
    let so_far = c.loop-height.invariant in
    let t = c.args.tree.now in
    let h = c.loop-height.height in
    let old = c.loop-height.nodes in
    let new : Nodes = record { layout = old.layout; heights = c.push.new.self } in
    let l = t.layout in
    let p = c.in_ok-places.places in
    let is = c.in_ok-push.ensures.items in
    let count = so_far.read.count in
    record {
      read = search rules;
      layout = so_far.layout;
      alike = alike_pushed old new p is refl (c.in_ok-places.ensures.layout ∙ sym so_far.layout) so_far.alike;
      count = height_pushed old new p is ∙ ap (λ (n : ℕ). n + 1) so_far.count;
      within = within_pushed (g.B.Blocks.count c.args.blocks.now) old new p is so_far.within (λ i. subst (λ (n : ℕ). PointsBelow n (place_at p i)) count (c.in_ok-places.ensures.within i));
      end = end_pushed l old new p t.count h (nodes_at l t.count h) is so_far.count refl c.in_ok-places.ensures.end so_far.end;
      full = λ m j lt holes. elim (cases_lt (suc m) h) [
        | inl before ↦
            node_pushed old new p (suc m) j is (omega (arith, before, so_far.count))
            ∙ so_far.full m j before (λ i small. sym (node_pushed old new p m (fan_out old.layout * j + i) is (omega (arith, before, so_far.count))) ∙ holes i small)
        | inr last ↦
            let e : h ≡ suc m = omega (arith, lt, last) in
            node_last old new p (suc m) j is (omega (arith, e, so_far.count))
            ∙ c.is_above-above.ensures.full (search rules) m j (omega (arith, e, so_far.count)) (λ i small. sym (node_pushed old new p m (fan_out old.layout * j + i) is (omega (arith, e, so_far.count))) ∙ holes i small)
      ];
      nodes = λ disk shows m i lt low. elim (cases_lt m h) [
        | inl before ↦ node_pushed old new p m i is (omega (arith, before, so_far.count)) ∙ so_far.nodes disk shows m i before low
        | inr last ↦
            let e : h ≡ m = omega (arith, lt, last) in
            node_last old new p m i is (omega (arith, e, so_far.count))
            ∙ c.in_ok-places.ensures.nodes disk (so_far.read.same disk shows) i (subst (λ (k : ℕ). i < nodes_at t.layout t.count k) (sym e) low)
            ∙ ap (λ (k : ℕ). place t.layout disk t.pointers (t.depth - k) i) e
      ];
    }

pub returns-clause-sizes : goal.returns-clause-sizes
returns-clause-sizes g c = record { layout = c.loop-height.invariant.layout; heights = search rules; end = c.loop-height.invariant.end }

pub returns-in_err-places-clause-damaged : goal.returns-in_err-places-clause-damaged
returns-in_err-places-clause-damaged g c = λ s disk base shows based sound blocks bad.
    let law = c.nodes_are_where_pointers_lead.ensures in
    let t = c.args.tree.now in
    let laws : NodeLaws = record { places = law.places; paths = law.paths _; past = law.past _; above = law.above } in
    c.in_err-places.ensures.damaged disk (c.loop-height.invariant.read.same disk shows) (search rules)
    (subst (λ (n : ℕ). (i : ℕ) → i < t.count → IsPath t.layout n disk t.pointers t.depth t.count i) (blocks ∙ sym c.loop-height.invariant.read.count) (paths_sound laws s disk base t based sound))

pub returns-clause-settled : goal.returns-clause-settled
returns-clause-settled g c = λ s disk base shows based sound.
    let law = c.nodes_are_where_pointers_lead.ensures in
    let t = c.args.tree.now in
    let so_far = c.loop-height.invariant in
    let laws : NodeLaws = record { places = law.places; paths = law.paths _; past = law.past _; above = law.above } in
    let heights : height_of c.loop-height.nodes ≡ suc t.depth = search rules in
    are_settled laws s disk base t c.loop-height.nodes sound so_far.layout heights so_far.end (λ m i le low. so_far.nodes disk shows m i (omega (arith, le, heights, so_far.count)) low) based

pub is_above-above-requires : goal.is_above-above-requires
is_above-above-requires g c =
    let so_far = c.loop-height.invariant in
    let t = c.args.tree.now in
    let h = c.loop-height.height in
    let low : t.count ≤ 4294967295 = omega (arith, c.count.type_inv, c.count.ensures.value) in
    record {
      end = λ some i le. c.in_ok-places.ensures.end i
          (let at : suc (h - 1) ≡ h = omega (arith, some, so_far.count) in
          let few = few_over t.layout t.count (h - 1) low in omega (arith, le, few, ap most_groups so_far.layout, ap (nodes_at t.layout t.count) at));
      nodes = λ m i le. so_far.end m i (omega (arith, le, low, nodes_fall t.layout t.count m));
    }

pub returns-then-not-above-clause-damaged : goal.returns-then-not-above-clause-damaged
returns-then-not-above-clause-damaged g c = λ s disk base shows based sound blocks bad.
    let law = c.nodes_are_where_pointers_lead.ensures in
    let t = c.args.tree.now in
    let so_far = c.loop-height.invariant in
    let h = c.loop-height.height in
    let p = c.in_ok-places.places in
    let laws : NodeLaws = record { places = law.places; paths = law.paths _; past = law.past _; above = law.above } in
    let (m, j, b, height, is, holes) = c.is_above-above.ensures.empty (search rules) in
    let e : h ≡ suc m = omega (arith, height, so_far.count) in
    not_empty laws s disk base t c.loop-height.nodes p m j b based sound so_far.layout (omega (arith, e, c.loop-height-test.true, c.depth.ensures)) (λ i low. so_far.nodes disk shows m i (omega (arith, e)) low)
    (subst (λ (k : ℕ). EndBefore (nodes_at t.layout t.count k) p) e c.in_ok-places.ensures.end)
    (subst (λ (k : ℕ). (i : ℕ) → i < nodes_at t.layout t.count k → place_at p i ≡ place t.layout disk t.pointers (t.depth - k) i) e (c.in_ok-places.ensures.nodes disk (so_far.read.same disk shows))) is holes

pub returns-clause-nodes : goal.returns-clause-nodes
returns-clause-nodes g c =
    let n = c.loop-height.nodes in
    let so_far = c.loop-height.invariant in
    record {
      alike = so_far.alike;
      within = so_far.within;
      full = λ m j holes. elim (cases_lt (suc m) (height_of n)) [
        | inl low ↦ so_far.full m j (omega (arith, low, so_far.count)) holes
        | inr high ↦ node_over n (suc m) j high
      ];
    }
