use Rattle.std.proofs.Common.{◌≡◌, ◌-◌, ◌≤◌, ◌<◌, ℕ, length, map}
use Rattle.std.specs.Prelude.{slice_index}
use Rattle.calls.proofs.reading.part.end_of_part.Given as goal

abbrev pub invariant-loop-end : goal.invariant-loop-end
invariant-loop-end l = record {
  past : l.count ≤ l.end;
  within : l.end ≤ length l.told;
  last : l.last ≡ slice_index (map (λ t. t.cookie) l.told) (l.count - 1);
  same : (k : ℕ) → l.count ≤ k → k < l.end → slice_index (map (λ t. t.cookie) l.told) k ≡ slice_index (map (λ t. t.cookie) l.told) (l.count - 1);
}

abbrev pub decreases-loop-end : goal.decreases-loop-end
decreases-loop-end l = length l.told - l.end
