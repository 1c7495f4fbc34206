use Rattle.std.proofs.Common.{ℕ, ◌≢◌, ◌-◌, ◌<◌, ◌≤◌, length, slice_index}
use Rattle.blockmap.proofs.lanes.first_zero.Given as goal

abbrev pub decreases-loop-at : goal.decreases-loop-at
decreases-loop-at l = length l.fn.entries - l.at

abbrev pub invariant-loop-at : goal.invariant-loop-at
invariant-loop-at l = record { from : l.fn.from ≤ l.at; within : l.at ≤ length l.fn.entries; none : (k : ℕ) → l.fn.from ≤ k → k < l.at → slice_index l.fn.entries k ≢ 0 }

abbrev pub decreases-loop-at-2 : goal.decreases-loop-at-2
decreases-loop-at-2 l = length l.fn.entries - l.at

abbrev pub invariant-loop-at-2 : goal.invariant-loop-at-2
invariant-loop-at-2 l = record { from : l.fn.from ≤ l.at; within : l.at ≤ length l.fn.entries; none : (k : ℕ) → l.fn.from ≤ k → k < l.at → slice_index l.fn.entries k ≢ 0 }
