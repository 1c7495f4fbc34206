use Rattle.std.proofs.Common.{◌≡◌, ◌*◌, ◌≤◌}
use Rattle.blockmap.specs.Maps.{free_below}
use Rattle.blockmap.proofs.map.BlockMap.free_in_parts.Given as goal

abbrev pub invariant-loop-j : goal.invariant-loop-j
invariant-loop-j l = record {
  count : l.free ≡ free_below l.self.parts.items (1024 * l.j);
  most : l.free ≤ 1024 * l.j;
}
