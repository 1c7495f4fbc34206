use Rattle.std.proofs.Common.{ℕ, List}
use Rattle.checker.specs.Rows.{ArePlacesOfTrees, AreSeenTo, MarksTrees}
use Rattle.checker.proofs.ReadLaws.{HasLooked}
use Rattle.checker.proofs.numbers.check_numbers.Given as goal

abbrev pub invariant-loop-i : goal.invariant-loop-i
invariant-loop-i g l = record {
  looked : HasLooked g.B.Blocks l.fn.blocks l.blocks;
  marked : MarksTrees l.fn.trees.items l.trees.items l.fn.marks l.marks l.fn.shared.of l.shared.of;
  places : (disk : ℕ → List ℕ) → g.B.Blocks.Shows l.fn.blocks disk → ArePlacesOfTrees (g.B.Blocks.count l.blocks) disk l.trees.items l.places.items;
  seen : (disk : ℕ → List ℕ) → g.B.Blocks.Shows l.fn.blocks disk
      → AreSeenTo disk l.root 0 l.fn.marks l.fn.shared.of l.fn.trees.items → AreSeenTo disk l.root l.i l.marks l.shared.of l.trees.items;
}
