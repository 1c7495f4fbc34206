use Rattle.std.proofs.Common.{◌≡◌, ℕ, List, ◌+◌, ◌*◌, length}
use Rattle.layout.specs.Places.{pointed}
use Rattle.buffers.specs.Disks.{IsWhole}
use Rattle.blocktree.specs.PlaceMaps.{place_at}
use Rattle.blocktree.specs.declared.place_map.PlaceMap.{PlaceMap}
use Rattle.checker.specs.Tables.{AreRowsAt}
use Rattle.checker.proofs.table.add_rows.Given as goal

abbrev pub invariant-loop-place : goal.invariant-loop-place
invariant-loop-place l = record {
  length_is : length l.rows.items ≡ 21 * l.i + l.place;
  rows : (disk : ℕ → List ℕ) (places : PlaceMap) → (IsWhole (pointed disk (place_at places l.i)) → l.bytes ≡ pointed disk (place_at places l.i))
      → AreRowsAt disk places l.fn.rows.items → AreRowsAt disk places l.rows.items;
}
