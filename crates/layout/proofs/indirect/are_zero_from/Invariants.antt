use Rattle.std.proofs.Common.{ℕ, ◌≡◌, ◌-◌, ◌<◌, ◌≤◌, slice_index}
use Rattle.layout.proofs.indirect.are_zero_from.Given as goal

abbrev pub decreases-loop-at : goal.decreases-loop-at
decreases-loop-at l = 4096 - l.at

abbrev pub invariant-loop-at : goal.invariant-loop-at
invariant-loop-at l = record { from : l.fn.from ≤ l.at; within : l.at ≤ 4096; none : (k : ℕ) → l.fn.from ≤ k → k < l.at → slice_index l.fn.bytes k ≡ 0 }

abbrev pub decreases-loop-at-2 : goal.decreases-loop-at-2
decreases-loop-at-2 l = 4096 - l.at

abbrev pub invariant-loop-at-2 : goal.invariant-loop-at-2
invariant-loop-at-2 l = record { from : l.fn.from ≤ l.at; within : l.at ≤ 4096; none : (k : ℕ) → l.fn.from ≤ k → k < l.at → slice_index l.fn.bytes k ≡ 0 }
