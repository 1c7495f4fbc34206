use Rattle.std.proofs.Common.{◌≡◌, ◌≤◌}
use Rattle.blockmap.specs.Maps.{free_below}
use Rattle.blockmap.proofs.map.BlockMap.free_count.Given as goal

abbrev pub invariant-loop-b : goal.invariant-loop-b
invariant-loop-b l = record {
  count : l.free ≡ free_below l.self.parts.items l.b;
  most : l.free ≤ l.b;
}
