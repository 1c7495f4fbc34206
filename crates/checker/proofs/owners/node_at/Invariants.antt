use Rattle.std.proofs.Common.{◌≡◌, ◌<◌, ◌≤◌, ◌-◌, ℕ}
use Rattle.layout.specs.declared.pointer.Pointer.TheVariants.{Block}
use Rattle.blocktree.specs.PlaceMaps.{place_at}
use Rattle.checker.specs.Trees.{IsNode}
use Rattle.checker.proofs.owners.node_at.Given as goal

abbrev pub invariant-loop-stored : goal.invariant-loop-stored
invariant-loop-stored l = record {
  within : l.from ≤ l.count;
  none : (i : ℕ) → i < l.from → place_at l.nodes i ≡ Block l.shared.block → IsNode l.shared.second l.number l.height i;
}

abbrev pub decreases-loop-stored : goal.decreases-loop-stored
decreases-loop-stored l = l.count - l.from
