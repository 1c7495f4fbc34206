use Rattle.std.proofs.Common.{arith, Contains}
use Rattle.blocktree.proofs.NameLaws.{stands_more, stands_all}
use Rattle.blocktree.proofs.names.add_places.Goals as goal

pub loop-node-preserved : goal.loop-node-preserved
loop-node-preserved c =
    let n = c.in-Some.node in
    let found = c.in-Some.ensures.found in
    record {
      low = omega (arith, found.1);
      stands = λ p. stands_more c.args.places.now c.loop-node.from n.index n.place p (Contains c.args.names.now.items p) (Contains c.loop-node.names.items p) (Contains c.add_place.new.names.items p)
          found.0 c.in-Some.ensures.before found.2 (c.loop-node.invariant.stands p) (c.in_ok-add_place.ensures p);
    }

pub returns : goal.returns
returns c = λ p.
    stands_all c.args.places.now c.loop-node.from c.args.count p (Contains c.args.names.now.items p) (Contains c.loop-node.names.items p) c.loop-node.invariant.low c.in_default.ensures.none (c.loop-node.invariant.stands p)
