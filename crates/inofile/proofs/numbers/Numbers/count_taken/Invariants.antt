use Rattle.std.proofs.Common.{◌+◌, ◌≤◌, ◌<◌}
use Rattle.layout.specs.Maps.{IsTaken}
use Rattle.model.specs.Counting.{Counts}
use Rattle.inofile.proofs.numbers.Numbers.count_taken.Given as goal

abbrev pub invariant-loop-number : goal.invariant-loop-number
invariant-loop-number l = record {
  counts : Counts (λ n. (4 ≤ n) × (n < l.number) × IsTaken l.self.bytes.items n) l.count;
  few : l.count + 4 ≤ l.number;
}
