use Rattle.std.proofs.Common.{◌≡◌, ℕ, List, length}
use Rattle.checker.specs.Rows.{AreAllBelow, ArePlacesOfTrees}
use Rattle.checker.proofs.ReadLaws.{HasLooked}
use Rattle.checker.proofs.numbers.places_of_trees.Given as goal

abbrev pub invariant-loop-k : goal.invariant-loop-k
invariant-loop-k g l = record {
  looked : HasLooked g.B.Blocks l.fn.blocks l.blocks;
  length_is : length l.places.items ≡ l.k;
  below : AreAllBelow (g.B.Blocks.count l.fn.blocks) l.places.items;
  places : (disk : ℕ → List ℕ) → g.B.Blocks.Shows l.fn.blocks disk → ArePlacesOfTrees (g.B.Blocks.count l.fn.blocks) disk l.trees.items l.places.items;
}
