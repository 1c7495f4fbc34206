use Rattle.std.proofs.Common.{rules, Contains}
use Rattle.placement.specs.Nodes.{node}
use Rattle.placement.proofs.AmongLaws.{before_all, before_more, before_none}
use Rattle.placement.proofs.nodes.add_changed.Goals as goal

pub loop-k-init : goal.loop-k-init
loop-k-init c = record { left = λ b. before_none b c.args.changed.now c.args.from.now (node c.args.to.now c.args.height) (Contains c.args.blocks.now.items b); within = search rules }

pub loop-k-preserved : goal.loop-k-preserved
loop-k-preserved c = record {
  left = λ b. before_more c.loop-k.k b c.args.changed.now c.args.from.now (node c.args.to.now c.args.height) (Contains c.args.blocks.now.items b) (Contains c.loop-k.blocks.items b) (Contains c.add_moved.new.blocks.items b)
      (c.loop-k.invariant.left b) (rw (c.at.ensures, c.at-in-loop-k.ensures) at (c.in_ok-add_moved.ensures.left b));
  within = λ disk all low. c.add_moved.ensures.within disk (rw c.at.ensures (all _)) (c.loop-k.invariant.within disk all low);
}

pub returns-clause-left : goal.returns-clause-left
returns-clause-left c = λ b. before_all c.loop-k.k b c.args.changed.now c.args.from.now (node c.args.to.now c.args.height) (Contains c.args.blocks.now.items b) (Contains c.loop-k.blocks.items b) c.loop-k-test.false c.loop-k.auto.k-end (c.loop-k.invariant.left b)
