use Rattle.std.proofs.Common.{ℕ, ◌-◌, ◌<◌, ◌≤◌}
use Rattle.blockmap.specs.Maps.{IsFree}
use Rattle.blockmap.proofs.map.BlockMap.free_from.Given as goal

abbrev pub invariant-loop-at : goal.invariant-loop-at
invariant-loop-at l = record {
  from : l.from ≤ l.at;
  none : (k : ℕ) → l.from ≤ k → k < l.at → IsFree l.self.parts.items k → ⊥;
}

abbrev pub decreases-loop-at : goal.decreases-loop-at
decreases-loop-at l = l.self.count - l.at
