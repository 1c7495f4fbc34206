use Rattle.std.proofs.Common.{◌≡◌, ℕ, ◌<◌, All, length}
use Rattle.layout.specs.Pointer.{PointsBelow}
use Rattle.conspoint.specs.Groups.{pointer_at}
use Rattle.placement.specs.Nodes.{AreWithin, node}
use Rattle.placement.proofs.nodes.Nodes.in_a_row.Given as goal

abbrev pub invariant-loop-i : goal.invariant-loop-i
invariant-loop-i l = record {
  count : length l.all.items ≡ l.i;
  blocks : (k : ℕ) → k < l.i → pointer_at l.all.items k ≡ node l.self 0 k;
  within : (blocks : ℕ) → AreWithin blocks l.self → All (PointsBelow blocks) l.all.items;
}
