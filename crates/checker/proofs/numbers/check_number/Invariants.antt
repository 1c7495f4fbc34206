use Rattle.std.proofs.Common.{◌≡◌, ℕ, ◌+◌, ◌*◌, List}
use Rattle.checker.specs.Rows.{AreRows, AreSeenInBlock, MarksTrees, rows_of}
use Rattle.checker.proofs.BetweenLaws.{IsBetween}
use Rattle.checker.proofs.ReadLaws.{HasLooked}
use Rattle.checker.proofs.numbers.check_number.Given as goal

abbrev pub invariant-loop-k : goal.invariant-loop-k
invariant-loop-k g l = record {
  looked : HasLooked g.B.Blocks l.fn.blocks l.blocks;
  marked : MarksTrees l.fn.trees.items l.trees.items l.fn.marks l.marks l.fn.shared.of l.shared.of;
  between : (disk : ℕ → List ℕ) (i : ℕ) → g.B.Blocks.Shows l.fn.blocks disk → l.number ≡ 21 * i + l.place
      → AreRows disk l.root i l.fn.trees.items (rows_of l.rows) → AreSeenInBlock disk l.root i l.place l.fn.marks l.fn.shared.of l.fn.trees.items
      → IsBetween disk l.root i l.number l.place l.done l.k l.marks l.shared.of (rows_of l.rows) l.trees.items;
}
