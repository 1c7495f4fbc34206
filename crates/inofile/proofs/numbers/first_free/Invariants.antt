use Rattle.std.proofs.Common.{ℕ, ◌≤◌, ◌<◌}
use Rattle.layout.specs.Maps.{IsTaken}
use Rattle.inofile.proofs.numbers.first_free.Given as goal

abbrev pub invariant-loop-number : goal.invariant-loop-number
invariant-loop-number l = (k : ℕ) → l.from ≤ k → k < l.number → IsTaken l.bytes k
