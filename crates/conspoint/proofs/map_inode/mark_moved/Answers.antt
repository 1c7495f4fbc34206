use Rattle.std.proofs.Common.{◌≡◌, ◌<◌, length, sym, ◌∙◌, arith}
use Rattle.std.proofs.lemmas.List.{get_or_default}
use Rattle.layout.specs.declared.pointer.Pointer.TheVariants.{Hole}
use Rattle.conspoint.specs.Groups.{pointer_at}
use Rattle.conspoint.proofs.StepLemmas.{keeps_then}
use Rattle.conspoint.proofs.MarkLemmas.{marking_more}
use Rattle.conspoint.proofs.map_inode.mark_moved.Goals as goal

pub mark_node-requires-clause-within : goal.mark_node-requires-clause-within
mark_node-requires-clause-within c b is =
    let nodes = c.args.nodes.now in
    let lt : c.loop-k.k < length nodes = omega (arith, c.loop-k-test.true, c.requires.size) in
    let node_is : c.index-nodes-k.result ≡ pointer_at nodes c.loop-k.k = c.index-nodes-k.is ∙ get_or_default nodes c.loop-k.k c.index-nodes-k.result Hole lt in
    omega (arith, c.requires.within c.loop-k.k b (sym node_is ∙ is), c.loop-k.invariant.step.grows.count)

pub loop-k-preserved : goal.loop-k-preserved
loop-k-preserved c =
    let so_far = c.loop-k.invariant in
    let k = c.loop-k.k in
    let nodes = c.args.nodes.now in
    let places = c.args.places.now in
    let lt : k < length nodes = omega (arith, c.loop-k-test.true, c.requires.size) in
    let node_is : c.index-nodes-k.result ≡ pointer_at nodes k = c.index-nodes-k.is ∙ get_or_default nodes k c.index-nodes-k.result Hole lt in
    let place_is : c.index-places-k.result ≡ pointer_at places k = c.index-places-k.is ∙ get_or_default places k c.index-places-k.result Hole c.loop-k-test.true in
    record {
      step = keeps_then so_far.step c.mark_node.ensures.step;
      same = λ j is. so_far.same j (c.mark_node.ensures.same j is);
      marked = λ b. marking_more nodes places k b c.args.is_in c.args.draft.now.map.parts.items c.loop-k.draft.map.parts.items c.mark_node.new.draft.map.parts.items
          c.index-nodes-k.result c.index-places-k.result node_is place_is (so_far.marked b) (c.mark_node.ensures.marked b);
    }
