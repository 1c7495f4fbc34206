use Rattle.std.proofs.Common.{◌≡◌, ◌<◌, ℕ, List, Some, None}
use Rattle.std.specs.Prelude.{IsTrue, slice_get}
use Rattle.std.specs.Int.{div_ceil}
use Rattle.layout.specs.declared.root.Root.{Root}
use Rattle.images.specs.Roots.{whole}
use Rattle.checker.specs.Checks.{AreFindings}
use Rattle.checker.specs.Rows.{AreSeenTo}
use Rattle.checker.specs.Tables.{IsKnown}
use Rattle.checker.specs.Trees.{IsApart, IsRootOf}
use Rattle.checker.specs.Watches.{KeepsTelling}
use Rattle.checker.specs.declared.tree.Tree.{Tree}
use Rattle.checker.proofs.EachLaws.{Each}
use Rattle.checker.proofs.EndLaws.{IsEnded}
use Rattle.checker.proofs.ReadLaws.{HasLooked}
use Rattle.checker.proofs.checking.check_each.Given as goal

abbrev pub invariant-loop-k : goal.invariant-loop-k
invariant-loop-k g l = record {
  look : HasLooked g.B.Blocks l.fn.blocks l.blocks;
  knows : (disk : ℕ → List ℕ) → g.B.Blocks.Shows l.fn.blocks disk → IsKnown disk l.known;
  each : Each (IsEnded g.B.Blocks.Shows l.fn.blocks (g.B.Blocks.count l.fn.blocks) l.geometry l.shared.of) l.k l.fn.trees.items l.trees.items;
  found : (disk : ℕ → List ℕ) (r : Root) (marks nvram : List ℕ) → g.B.Blocks.Shows l.fn.blocks disk → IsRootOf r l.geometry (g.B.Blocks.count l.fn.blocks)
      → AreSeenTo disk r (div_ceil l.geometry.inodes 21) marks l.shared.of l.fn.trees.items
      → AreFindings r (whole disk r) nvram l.fn.findings.first → AreFindings r (whole disk r) nvram l.findings.first;
  tells : KeepsTelling g.W.Watch l.fn.findings l.findings;
  apart : IsTrue l.are_apart → (i : ℕ) (t : Tree) → i < l.k → slice_get l.trees.items i ≡ Some t → IsApart t.fault;
  told : l.findings.first ≡ None → (i : ℕ) (t : Tree) → i < l.k → slice_get l.trees.items i ≡ Some t → t.fault ≡ None;
  all : l.findings.first ≡ None → IsTrue l.are_apart;
}
