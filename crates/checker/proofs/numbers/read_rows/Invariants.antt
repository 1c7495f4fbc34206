use Rattle.std.proofs.Common.{◌≡◌, ℕ, ◌*◌, ◌<◌, List, length}
use Rattle.std.specs.Prelude.{Option, Some, slice_get}
use Rattle.layout.specs.declared.root.Root.{Root}
use Rattle.layout.specs.Root.{IsRoot}
use Rattle.checker.specs.Rows.{ArePlacesOfTrees, AreReadAt, rows_of}
use Rattle.checker.specs.Trees.{IsSeenTo}
use Rattle.checker.specs.declared.nodes.Shared.{Shared}
use Rattle.checker.specs.declared.tree.Tree.{Tree}
use Rattle.checker.proofs.EachLaws.{Each}
use Rattle.checker.proofs.ReadLaws.{HasLooked}
use Rattle.checker.proofs.RowLaws.{IsSame, IsRowOf}
use Rattle.checker.proofs.numbers.read_rows.Given as goal

abbrev pub invariant-loop-k : goal.invariant-loop-k
invariant-loop-k g l = record {
  looked : HasLooked g.B.Blocks l.fn.blocks l.blocks;
  each : Each (λ j t q. IsSame t q) l.k l.fn.trees.items l.trees.items;
  rows_length : length (rows_of l.rows) ≡ l.k;
  read : (disk : ℕ → List ℕ) → g.B.Blocks.Shows l.fn.blocks disk → AreReadAt disk l.rows;
  rows_are : (disk : ℕ → List ℕ) (r : Root) (marks : List ℕ) (shared : List (Option Shared)) → g.B.Blocks.Shows l.fn.blocks disk → IsRoot r
      → g.B.Blocks.count l.fn.blocks ≡ r.geometry.blocks → ArePlacesOfTrees (g.B.Blocks.count l.fn.blocks) disk l.fn.trees.items l.places.items → (j : ℕ) (t q : Tree) → slice_get l.fn.trees.items j ≡ Some t → slice_get l.trees.items j ≡ Some q → j < l.k
      → IsSeenTo disk r l.i (21 * l.i) marks shared t → IsSeenTo disk r l.i (21 * l.i) marks shared q × IsRowOf disk r l.i (rows_of l.rows) j q;
}
