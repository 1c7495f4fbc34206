use Rattle.std.proofs.Common.{rules, Contains, sym, subst, ◌∙◌, arith}
use Rattle.layout.specs.Pointer.{PointsBelow}
use Rattle.layout.specs.declared.pointer.Pointer.TheVariants.{Block}
use Rattle.layout.proofs.PointerLaws.{hole_block}
use Rattle.placement.specs.Nodes.{node}
use Rattle.placement.proofs.ListLaws.{left_all, left_more, left_none}
use Rattle.placement.proofs.nodes.add_left.Goals as goal

pub loop-next-init : goal.loop-next-init
loop-next-init c = record {
  low = search rules;
  high = omega arith;
  left = λ b. left_none c.args.start b c.args.from.now (node c.args.to.now c.args.height) (Contains c.args.blocks.now.items b);
  within = search rules;
}

pub loop-next-preserved : goal.loop-next-preserved
loop-next-preserved c =
    let so_far = c.loop-next.invariant in
    let n = c.in-Some.node in
    let found = c.in-Some.ensures.found in
    let from = c.args.from.now in
    record {
      low = omega (arith, so_far.low, found.0);
      high = omega (arith, found.1);
      left = λ b. left_more c.args.start c.loop-next.next n.index b (Block n.place) from (node c.args.to.now c.args.height) (Contains c.args.blocks.now.items b) (Contains c.loop-next.blocks.items b) (Contains c.add_moved.new.blocks.items b)
          so_far.low found.0 (λ k le lt is. hole_block (sym (c.in-Some.ensures.before k le lt) ∙ is)) found.2 (so_far.left b) (rw c.at.ensures at (c.in_ok-add_moved.ensures.left b));
      within = λ count all low. c.add_moved.ensures.within count (subst (PointsBelow count) found.2 (all n.index)) (so_far.within count all low);
    }

pub returns-clause-left : goal.returns-clause-left
returns-clause-left c = λ b.
    left_all c.args.start c.loop-next.next c.args.end b c.args.from.now (node c.args.to.now c.args.height) (Contains c.args.blocks.now.items b) (Contains c.loop-next.blocks.items b) c.loop-next.invariant.high
    (λ k le lt is. hole_block (sym (c.in_default.ensures.none k le lt) ∙ is)) (c.loop-next.invariant.left b)
