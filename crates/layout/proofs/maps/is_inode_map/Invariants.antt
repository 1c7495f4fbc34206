use Rattle.std.proofs.Common.{ℕ, ◌+◌, ◌*◌, ◌<◌, ◌≤◌, length}
use Rattle.layout.specs.Maps.{IsTaken}
use Rattle.layout.proofs.maps.is_inode_map.Given as goal

abbrev pub invariant-loop-own : goal.invariant-loop-own
invariant-loop-own l = (k : ℕ) → k < l.own → IsTaken l.bytes k

abbrev pub invariant-loop-past : goal.invariant-loop-past
invariant-loop-past l = record {
  own : (k : ℕ) → k < 8 * length l.bytes → l.first + k < 4 → IsTaken l.bytes k;
  past : (k : ℕ) → k < l.past → l.inodes ≤ l.first + k → IsTaken l.bytes k → ⊥;
}
