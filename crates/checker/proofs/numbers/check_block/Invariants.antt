use Rattle.std.proofs.Common.{◌≡◌, ℕ, List, length, vec_len}
use Rattle.checker.specs.Rows.{ArePlacesOfTrees, AreRows, AreSeenInBlock, AreSeenTo, MarksTrees, rows_of}
use Rattle.checker.proofs.ReadLaws.{HasLooked}
use Rattle.checker.proofs.numbers.check_block.Given as goal

abbrev pub invariant-loop-place : goal.invariant-loop-place
invariant-loop-place g l = record {
  looked : HasLooked g.B.Blocks l.fn.blocks l.blocks;
  marked : MarksTrees l.fn.trees.items l.trees.items l.fn.marks l.marks l.fn.shared.of l.shared.of;
  rows_length : length (rows_of l.rows) ≡ vec_len l.trees;
  seen : (disk : ℕ → List ℕ) → g.B.Blocks.Shows l.fn.blocks disk
      → ArePlacesOfTrees (g.B.Blocks.count l.fn.blocks) disk l.fn.trees.items l.fn.places.items → AreSeenTo disk l.root l.i l.fn.marks l.fn.shared.of l.fn.trees.items
      → AreRows disk l.root l.i l.trees.items (rows_of l.rows) × AreSeenInBlock disk l.root l.i l.place l.marks l.shared.of l.trees.items;
}
