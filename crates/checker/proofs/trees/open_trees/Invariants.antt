use Rattle.std.proofs.Common.{◌≡◌, ◌≤◌, ℕ, List, length, slice_index, vec_len}
use Rattle.images.specs.BlockMap.{HasBit}
use Rattle.images.specs.Roots.{whole}
use Rattle.images.specs.Snapshots.{AreSnapshots}
use Rattle.checker.specs.Findings.{HasTree}
use Rattle.checker.specs.Nodes.{SharesNone, StaysFor}
use Rattle.checker.specs.Trees.{IsSeenTo}
use Rattle.checker.proofs.ReadLaws.{HasLooked}
use Rattle.checker.proofs.PlaneLaws.{AreTreesTo}
use Rattle.checker.proofs.trees.open_trees.Given as goal

abbrev pub invariant-loop-k : goal.invariant-loop-k
invariant-loop-k g l = record {
  read : HasLooked g.B.Blocks l.fn.blocks l.blocks;
  some : 1 ≤ vec_len l.trees;
  size : length l.marks ≡ length l.fn.marks;
  stays : (p : ℕ) → ((p ≤ l.k) × HasTree l.root p → ⊥) → StaysFor p l.fn.marks l.marks l.fn.shared.of l.shared.of;
  trees : (disk : ℕ → List ℕ) → g.B.Blocks.Shows l.fn.blocks disk → AreSnapshots l.root (whole disk l.root) → ((k b : ℕ) → HasBit k (slice_index l.fn.marks b) → ⊥)
      → ((k : ℕ) → SharesNone l.fn.shared.of k) → AreTreesTo l.root l.k l.trees.items (IsSeenTo disk l.root 0 0 l.marks l.shared.of);
}
