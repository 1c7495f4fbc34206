use Rattle.std.proofs.Common.{◌≡◌, ℕ, ◌<◌}
use Rattle.std.specs.Prelude.{slice_index_or}
use Rattle.blocktree.specs.PlaceMaps.{AreBelow, EndBefore, place_at}
use Rattle.layout.specs.declared.pointer.Pointer.TheVariants.{Hole}
use Rattle.blocktree.proofs.nodes.own_places.Given as goal

abbrev pub invariant-loop-i : goal.invariant-loop-i
invariant-loop-i l = record {
  within : AreBelow l.blocks l.places;
  end : EndBefore l.i l.places;
  nodes : (i : ℕ) → i < l.i → place_at l.places i ≡ slice_index_or l.pointers i Hole;
  layout : l.places.layout ≡ l.fn.layout;
}
