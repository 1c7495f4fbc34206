use Rattle.std.proofs.Common.{ℕ, rules, Contains, sym, subst, ◌≡◌, ◌∙◌, arith}
use Rattle.placement.specs.Nodes.{node}
use Rattle.placement.proofs.ListLaws.{moved_more, moved_all, moved_none}
use Rattle.placement.proofs.nodes.moved.Goals as goal

pub loop-height-init : goal.loop-height-init
loop-height-init c = record { moved = λ b. moved_none c.new-blocks.result.items b c.args.from.now c.args.to.now c.new-blocks.ensures.items; within = search rules }

pub add_height-requires : goal.add_height-requires
add_height-requires c = record {
  short = λ i past. c.height-places.ensures.nodes i ∙ c.requires.short c.loop-height.height i past;
  among = c.requires.among;
  kept = λ is i some lt not. c.height-places.ensures.nodes i ∙ subst (λ (m : ℕ). node c.args.from.now m i ≡ node c.args.to.now m i) (sym is) (sym (c.requires.kept i some lt not));
}

pub loop-height-preserved : goal.loop-height-preserved
loop-height-preserved c = record {
  moved = λ b. moved_more c.loop-height.height b c.args.from.now c.args.to.now c.height-places.result.now (Contains c.loop-height.blocks.items b) (Contains c.add_height.new.blocks.items b) c.height-places.ensures.nodes (c.loop-height.invariant.moved b) (c.in_ok-add_height.ensures.left b);
  within = λ count all. c.add_height.ensures.within count (λ i. rw c.height-places.ensures.nodes (all c.loop-height.height i)) (c.loop-height.invariant.within count all);
}

pub returns-clause-moved : goal.returns-clause-moved
returns-clause-moved c = λ b. moved_all c.loop-height.height b c.args.from.now c.args.to.now (Contains c.loop-height.blocks.items b) (omega arith) (c.loop-height.invariant.moved b)
