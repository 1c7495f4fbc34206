-- How many blocks of a disk are free.
use Rattle.std.specs.Prelude.{ℕ, ◌-◌}
use Rattle.blockmap.specs.Maps.{free_below}
use Rattle.blockmap.specs.declared.map.BlockMap.{BlockMap}

-- how many blocks are free under the settled root and not given out
unfoldable pub left : BlockMap → ℕ
left m = free_below m.parts.items m.count - free_below m.parts.items m.next
