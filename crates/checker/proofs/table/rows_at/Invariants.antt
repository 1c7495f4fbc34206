use Rattle.std.proofs.Common.{◌≡◌, ℕ, ◌*◌, ◌≤◌, List, length}
use Rattle.std.specs.Prelude.{min}
use Rattle.checker.specs.Tables.{AreRowsAt, IsKnown}
use Rattle.checker.proofs.ReadLaws.{HasLooked}
use Rattle.checker.proofs.table.rows_at.Given as goal

abbrev pub invariant-loop-i : goal.invariant-loop-i
invariant-loop-i g l = record {
  looked : HasLooked g.B.Blocks l.fn.blocks l.blocks;
  few : l.kept ≤ 256;
  length_is : length l.rows.items ≡ min (21 * l.i) l.geometry.inodes;
  rows : (disk : ℕ → List ℕ) → g.B.Blocks.Shows l.fn.blocks disk → IsKnown disk l.known → AreRowsAt disk l.places l.rows.items;
}
