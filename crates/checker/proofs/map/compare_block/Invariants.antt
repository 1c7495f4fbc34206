use Rattle.std.proofs.Common.{◌≡◌, ℕ, ◌+◌, ◌*◌, ◌<◌, ◌≤◌, ◌==◌, if◌then◌else◌, slice_index}
use Rattle.layout.specs.Maps.{map_entry}
use Rattle.images.specs.Sums.{sum_below}
use Rattle.checker.proofs.map.compare_block.Given as goal

abbrev pub invariant-loop-r : goal.invariant-loop-r
invariant-loop-r l = (
    (l.free ≤ l.r) × ((i : ℕ) → i < l.r → map_entry l.bytes i ≡ slice_index l.marks (1024 * l.j + i))
    × (l.free ≡ sum_below (λ i. if map_entry l.bytes i == 0 then 1 else 0) l.r))
