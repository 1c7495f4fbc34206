use Rattle.std.proofs.Common.{◌≡◌, ◌<◌, ℕ, List, None}
use Rattle.images.specs.Roots.{whole}
use Rattle.checker.specs.Checks.{AreFindings}
use Rattle.checker.specs.Trees.{TellsSlot}
use Rattle.checker.specs.Watches.{KeepsTelling}
use Rattle.checker.proofs.ReadLaws.{HasLooked}
use Rattle.checker.proofs.checking.check_snapshots.Given as goal

abbrev pub invariant-loop-k : goal.invariant-loop-k
invariant-loop-k g l = record {
  look : HasLooked g.B.Blocks l.fn.blocks l.blocks;
  found : (disk : ℕ → List ℕ) (nvram : List ℕ) → g.B.Blocks.Shows l.fn.blocks disk
      → AreFindings l.root (whole disk l.root) nvram l.fn.findings.first → AreFindings l.root (whole disk l.root) nvram l.findings.first;
  tells : KeepsTelling g.W.Watch l.fn.findings l.findings;
  none : (disk : ℕ → List ℕ) → g.B.Blocks.Shows l.fn.blocks disk → l.findings.first ≡ None → (j : ℕ) → j < l.k → TellsSlot disk l.root j None;
}
