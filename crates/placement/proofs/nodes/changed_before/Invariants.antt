use Rattle.std.proofs.Common.{ℕ, ◌-◌, ◌<◌, ◌≤◌}
use Rattle.blocktree.specs.Trees.{IsChanged}
use Rattle.placement.specs.Nodes.{AreBetween, IsAmong}
use Rattle.placement.proofs.nodes.changed_before.Given as goal

abbrev pub invariant-loop-i : goal.invariant-loop-i
invariant-loop-i l = record {
  low : 1 ≤ l.next;
  within : AreBetween 1 l.end l.changed.items;
  all : (i : ℕ) → 1 ≤ i → i < l.next → (IsAmong l.changed.items i → ⊥) → IsChanged l.tree i → ⊥;
}

abbrev pub decreases-loop-i : goal.decreases-loop-i
decreases-loop-i l = l.end - l.next
