use Rattle.std.proofs.Common.{ℕ, ◌≡◌, ◌-◌, ◌*◌, ◌%◌, ◌^◌, ◌<◌, ◌≤◌, length, slice_index}
use Rattle.std.specs.Prelude.{bit_and, bit_or}
use Rattle.blockmap.proofs.lanes.take_all.Given as goal

abbrev pub decreases-loop-at : goal.decreases-loop-at
decreases-loop-at l = length l.entries - l.at

abbrev pub invariant-loop-at : goal.invariant-loop-at
invariant-loop-at l = record {
  long : length l.entries ≡ length l.fn.entries;
  within : l.at ≤ length l.fn.entries;
  done : (k : ℕ) → k < l.at → slice_index l.entries k ≡ bit_or (bit_and (slice_index l.fn.entries k) l.fn.mask) (bit_and (slice_index l.fn.settled k) 1 * l.fn.bit % 2 ^ 32);
  rest : (k : ℕ) → l.at ≤ k → slice_index l.entries k ≡ slice_index l.fn.entries k;
}

abbrev pub decreases-loop-entries : goal.decreases-loop-entries
decreases-loop-entries l = length l.entries - l.at

abbrev pub invariant-loop-entries : goal.invariant-loop-entries
invariant-loop-entries l = record {
  long : length l.entries ≡ length l.fn.entries;
  within : l.at ≤ length l.fn.entries;
  done : (k : ℕ) → k < l.at → slice_index l.entries k ≡ bit_or (bit_and (slice_index l.fn.entries k) l.fn.mask) (bit_and (slice_index l.fn.settled k) 1 * l.fn.bit % 2 ^ 32);
  rest : (k : ℕ) → l.at ≤ k → slice_index l.entries k ≡ slice_index l.fn.entries k;
}
