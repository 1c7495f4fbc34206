use Rattle.std.proofs.Common.{◌≡◌, ◌∙◌, ℕ, ◌+◌, List, length, ap, arith, subst, sym}
use Rattle.std.specs.Prelude.{Some, slice_get}
use Rattle.std.proofs.lemmas.List.{length_push}
use Rattle.blocktree.specs.PlaceMaps.{AreBelow}
use Rattle.blocktree.specs.Trees.{AreSound}
use Rattle.blocktree.specs.declared.place_map.PlaceMap.{PlaceMap}
use Rattle.model.proofs.OptionLaws.{none_some}
use Rattle.checker.proofs.EachLaws.{get_at}
use Rattle.checker.proofs.ReadLaws.{looked, looked_more, looked_none}
use Rattle.checker.proofs.RowReads.{below_more, places_more}
use Rattle.checker.proofs.numbers.places_of_trees.Goals as goal

pub loop-k-init : goal.loop-k-init
loop-k-init g c = record {
  looked = looked_none c.args.blocks.now;
  length_is = ap length c.new-places.ensures.items;
  below = λ l p at. none_some (subst (λ (ps : List PlaceMap). slice_get ps l ≡ Some p) c.new-places.ensures.items at);
  places = λ disk shows l t p there at. none_some (subst (λ (ps : List PlaceMap). slice_get ps l ≡ Some p) c.new-places.ensures.items at);
}

pub loop-k-preserved : goal.loop-k-preserved
loop-k-preserved g c =
    let so_far = c.loop-k.invariant in
    let tree : slice_get c.args.trees.now.items (length c.loop-k.places.items) ≡ Some c.index.result.now =
    ap (slice_get c.args.trees.now.items) so_far.length_is
    ∙ get_at c.args.trees.now.items c.loop-k.k c.index.result.now (omega (arith, c.loop-k-test.true, c.len-k-end.ensures)) c.index.ensures in
    record {
      looked = looked_more so_far.looked (looked c.in_ok-found.ensures.reads);
      length_is = ap length c.in_ok-push.ensures.items ∙ length_push c.loop-k.places.items c.in_ok-found.found ∙ ap (λ (n : ℕ). n + 1) so_far.length_is;
      below = below_more _ c.loop-k.places.items c.push.new.self.items c.in_ok-found.found c.in_ok-push.ensures.items so_far.below
          (subst (λ (n : ℕ). AreBelow n c.in_ok-found.found) so_far.looked.count c.in_ok-found.ensures.below);
      places = λ disk shows.
          places_more _ disk c.args.trees.now.items c.loop-k.places.items c.push.new.self.items c.index.result.now c.in_ok-found.found c.in_ok-push.ensures.items tree (so_far.places disk shows)
          (λ sound. c.in_ok-found.ensures.places disk (so_far.looked.same disk shows) (subst (λ (n : ℕ). AreSound n disk c.index.result.now.file.tree) (sym so_far.looked.count) sound));
    }
