use Rattle.std.proofs.Common.{◌<◌, ℕ, List}
use Rattle.layout.specs.declared.root.Root.{Root}
use Rattle.images.specs.Roots.{whole}
use Rattle.checker.specs.Findings.{tree_in}
use Rattle.checker.specs.Trees.{IsAloneAt, IsTreeAt}
use Rattle.checker.proofs.ReadLaws.{HasLooked}
use Rattle.checker.proofs.owners.first_owner.Given as goal

abbrev pub invariant-loop-number : goal.invariant-loop-number
invariant-loop-number g l = record {
  read : HasLooked g.B.Blocks l.fn.blocks l.blocks;
  alone : (disk : ℕ → List ℕ) (r : Root) → g.B.Blocks.Shows l.fn.blocks disk → IsTreeAt disk r l.geometry (g.B.Blocks.count l.fn.blocks) l.tree
      → (n m : ℕ) → n < l.number → IsAloneAt l.shared n (tree_in (whole disk r) l.tree.plane n) m;
}
