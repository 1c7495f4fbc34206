use Rattle.std.proofs.Common.{◌≡◌, ◌==◌, ◌-◌, ◌≤◌, length, take}
use Rattle.std.specs.Prelude.{count_by}
use Rattle.blockmap.proofs.lanes.count_zero.Given as goal

abbrev pub decreases-loop-at : goal.decreases-loop-at
decreases-loop-at l = length l.fn.entries - l.at

abbrev pub invariant-loop-at : goal.invariant-loop-at
invariant-loop-at l = record { within : l.at ≤ length l.fn.entries; counted : l.total ≡ count_by (λ e. e == 0) (take l.at l.fn.entries) }

abbrev pub decreases-loop-at-2 : goal.decreases-loop-at-2
decreases-loop-at-2 l = length l.fn.entries - l.at

abbrev pub invariant-loop-at-2 : goal.invariant-loop-at-2
invariant-loop-at-2 l = record { within : l.at ≤ length l.fn.entries; counted : l.total ≡ count_by (λ e. e == 0) (take l.at l.fn.entries) }
