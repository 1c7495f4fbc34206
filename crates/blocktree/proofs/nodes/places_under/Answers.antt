use Rattle.std.proofs.Common.{rules, arith, ◌≡◌, ℕ, ◌-◌, ◌*◌, ◌<◌, ◌≤◌, subst, sym}
use Rattle.std.proofs.Math.Nat.{mul-le-mul_left}
use Rattle.std.specs.Int.{div_ceil}
use Rattle.layout.specs.Maps.{IsIndirectBlock}
use Rattle.layout.specs.Pointer.{PointsBelow}
use Rattle.layout.specs.Trees.{fan_out}
use Rattle.layout.specs.declared.pointer.Pointer.TheVariants.{Block}
use Rattle.blocktree.specs.PlaceMaps.{place_at}
use Rattle.layout.proofs.FanLaws.{group_low, groups_all}
use Rattle.blocktree.proofs.FanLemmas.{wide_is}
use Rattle.blocktree.proofs.WalkLaws.{follows_more, follows_all, sound_more, sound_all, node_block}
use Rattle.blocktree.proofs.nodes.places_under.Goals as goal

pub add_group-requires : goal.add_group-requires
add_group-requires g c =
    let wide : c.div_ceil-groups.result ≡ div_ceil c.args.count (fan_out c.args.layout) = wide_is c.args.count c.div_ceil-groups.result c.fan_out.result (fan_out c.args.layout) c.div_ceil-groups.ensures c.fan_out.ensures.value in
    let so_far = c.loop-node.invariant in
    let n = c.in-Some.node in
    let found = c.in-Some.ensures.found in
    let count = so_far.read.count in
    record {
      layout = so_far.layout;
      place = subst (λ (k : ℕ). PointsBelow k (Block n.place)) (sym count) (subst (PointsBelow (g.B.Blocks.count c.args.blocks.now)) found.2 (c.requires n.index));
      index = group_low c.args.layout c.args.count n.index (subst (λ (k : ℕ). n.index < k) wide found.1);
      within = λ i. subst (λ (k : ℕ). PointsBelow k (place_at c.loop-node.places i)) (sym count) (so_far.within i);
      end = λ i le. so_far.behind i (omega (arith, le, mul-le-mul_left (fan_out c.args.layout) found.0));
    }

pub loop-node-preserved : goal.loop-node-preserved
loop-node-preserved g c =
    let so_far = c.loop-node.invariant in
    let n = c.in-Some.node in
    let found = c.in-Some.ensures.found in
    let added = c.in_ok-add_group.ensures in
    let above = c.args.above.now in
    let blocks = g.B.Blocks.count c.args.blocks.now in
    let count = so_far.read.count in
    record {
      read = search rules;
      layout = added.layout;
      low = omega (arith, found.1);
      within = λ i. subst (λ (k : ℕ). PointsBelow k (place_at c.add_group.new.places i)) count (added.within i);
      behind = λ i le. added.behind i (omega (arith, le));
      end = added.end;
      nodes = λ disk shows. follows_more c.args.layout disk above c.loop-node.places c.add_group.new.places c.args.count c.loop-node.from n.index n.place found.0 c.in-Some.ensures.before found.2
          so_far.behind (so_far.nodes disk shows) added.before (added.group disk (so_far.read.same disk shows));
      sound = λ disk shows. sound_more c.args.layout blocks disk above c.args.count c.loop-node.from n.index n.place c.in-Some.ensures.before found.2 (so_far.sound disk shows)
          (subst (λ (k : ℕ). IsIndirectBlock c.args.layout k (c.args.count - fan_out c.args.layout * n.index) (disk n.place)) count (added.sound disk (so_far.read.same disk shows)));
    }

pub returns-in_err-add_group-clause-damaged : goal.returns-in_err-add_group-clause-damaged
returns-in_err-add_group-clause-damaged g c = λ disk shows bad sound.
    let wide : c.div_ceil-groups.result ≡ div_ceil c.args.count (fan_out c.args.layout) = wide_is c.args.count c.div_ceil-groups.result c.fan_out.result (fan_out c.args.layout) c.div_ceil-groups.ensures c.fan_out.ensures.value in
    let so_far = c.loop-node.invariant in
    let n = c.in-Some.node in
    let found = c.in-Some.ensures.found in
    let within = subst (λ (k : ℕ). n.index < k) wide found.1 in
    c.in_err-add_group.ensures.damaged disk (so_far.read.same disk shows) (search rules)
    (subst (λ (k : ℕ). IsIndirectBlock c.args.layout k (c.args.count - fan_out c.args.layout * n.index) (disk n.place)) (sym so_far.read.count)
    (node_block c.args.layout (g.B.Blocks.count c.args.blocks.now) disk c.args.above.now c.args.count n.index n.place found.2 (sound n.index within)))

pub returns-clause-nodes : goal.returns-clause-nodes
returns-clause-nodes g c = λ disk shows.
    let so_far = c.loop-node.invariant in
    let wide : c.div_ceil-groups.result ≡ div_ceil c.args.count (fan_out c.args.layout) = wide_is c.args.count c.div_ceil-groups.result c.fan_out.result (fan_out c.args.layout) c.div_ceil-groups.ensures c.fan_out.ensures.value in
    let all : c.args.count ≤ fan_out c.args.layout * c.div_ceil-groups.result = subst (λ (k : ℕ). c.args.count ≤ fan_out c.args.layout * k) (sym wide) (groups_all c.args.layout c.args.count) in
    follows_all c.args.layout disk c.args.above.now c.loop-node.places c.args.count c.loop-node.from c.div_ceil-groups.result all c.in_default.ensures.none so_far.behind (so_far.nodes disk shows)

pub returns-clause-sound : goal.returns-clause-sound
returns-clause-sound g c = λ disk shows j lt.
    let so_far = c.loop-node.invariant in
    let wide : c.div_ceil-groups.result ≡ div_ceil c.args.count (fan_out c.args.layout) = wide_is c.args.count c.div_ceil-groups.result c.fan_out.result (fan_out c.args.layout) c.div_ceil-groups.ensures c.fan_out.ensures.value in
    let within = subst (λ (k : ℕ). j < k) (sym wide) lt in
    sound_all c.args.layout (g.B.Blocks.count c.args.blocks.now) disk c.args.above.now c.args.count c.loop-node.from c.div_ceil-groups.result c.in_default.ensures.none (so_far.sound disk shows) j within
