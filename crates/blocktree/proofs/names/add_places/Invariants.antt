use Rattle.std.proofs.Common.{◌↔◌, ◌⊎◌, ℕ, ◌-◌, ◌≤◌, Contains}
use Rattle.blocktree.specs.PlaceMaps.{StandsBelow}
use Rattle.blocktree.proofs.names.add_places.Given as goal

abbrev pub invariant-loop-node : goal.invariant-loop-node
invariant-loop-node l = record {
  low : l.from ≤ l.count;
  stands : (p : ℕ) → Contains l.names.items p ↔ (Contains l.fn.names.items p ⊎ StandsBelow l.places l.from p);
}

abbrev pub decreases-loop-node : goal.decreases-loop-node
decreases-loop-node l = l.count - l.from
