use Rattle.std.proofs.Common.{ℕ, ◌-◌, ◌<◌, ◌≤◌}
use Rattle.blocktree.specs.Trees.{IsChanged}
use Rattle.blocktree.proofs.tree.BlockTree.next_changed.Given as goal

abbrev pub invariant-loop-i : goal.invariant-loop-i
invariant-loop-i l = record {
  from : l.fn.from ≤ l.from;
  none : (i : ℕ) → l.fn.from ≤ i → i < l.from → IsChanged l.self i → ⊥;
}

abbrev pub decreases-loop-i : goal.decreases-loop-i
decreases-loop-i l = l.to - l.from
