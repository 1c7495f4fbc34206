use Rattle.std.proofs.Common.{◌≡◌, ◌<◌, ◌≤◌, ℕ, None, length, slice_index_or}
use Rattle.checker.specs.declared.nodes.TheConstants.{PLANES}
use Rattle.checker.proofs.NodeLaws.{AddsAt}
use Rattle.checker.proofs.nodes.add_shared.Given as goal

abbrev pub invariant-loop-k : goal.invariant-loop-k
invariant-loop-k l = record {
  length_is : length l.of ≡ PLANES;
  below : (j : ℕ) → j < l.k → AddsAt l.bits l.shared j l.initial.of l.of;
  above : (j : ℕ) → l.k ≤ j → slice_index_or l.of j None ≡ slice_index_or l.initial.of j None;
}
