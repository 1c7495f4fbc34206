use Rattle.std.proofs.Common.{◌≡◌, ◌+◌, ◌<◌, ◌≤◌, ◌∙◌, sym, subst, arith}
use Rattle.std.specs.Prelude.{slice_index_or}
use Rattle.layout.specs.Pointer.{PointsBelow}
use Rattle.layout.specs.declared.pointer.Pointer.TheVariants.{Hole}
use Rattle.blocktree.proofs.PlaceMapLaws.{changed_all}
use Rattle.blocktree.proofs.nodes.own_places.Goals as goal

pub loop-i-preserved : goal.loop-i-preserved
loop-i-preserved c =
    let so_far = c.loop-i.invariant in
    let i = c.loop-i.i in
    let p = c.in_ok-pointer.pointer in
    let put = c.in_ok-set.ensures in
    let own = c.in_ok-pointer.ensures in
    record {
      within = changed_all (λ j q. PointsBelow c.args.blocks q) c.loop-i.places c.set.new.self i p put.there put.others (subst (PointsBelow c.args.blocks) (sym own.pointer) own.within) (λ j n. so_far.within j);
      end = changed_all (λ j q. i + 1 ≤ j → q ≡ Hole) c.loop-i.places c.set.new.self i p put.there put.others (λ le. absurd (omega arith)) (λ j n le. so_far.end j (omega arith));
      layout = put.layout ∙ so_far.layout;
      nodes = changed_all (λ j q. j < i + 1 → q ≡ slice_index_or c.args.pointers.now j Hole) c.loop-i.places c.set.new.self i p put.there put.others (λ lt. own.pointer) (λ j n lt. so_far.nodes j (omega (arith, n, lt)));
    }
