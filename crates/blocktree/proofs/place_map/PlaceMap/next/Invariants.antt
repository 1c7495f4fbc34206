use Rattle.std.proofs.Common.{◌≡◌, ℕ, ◌-◌, ◌<◌, ◌≤◌}
use Rattle.layout.specs.declared.pointer.Pointer.TheVariants.{Hole}
use Rattle.blocktree.specs.PlaceMaps.{place_at}
use Rattle.blocktree.proofs.place_map.PlaceMap.next.Given as goal

abbrev pub invariant-loop-j : goal.invariant-loop-j
invariant-loop-j l = record {
  low : l.fn.from ≤ l.from;
  before : (i : ℕ) → l.fn.from ≤ i → i < l.from → place_at l.self i ≡ Hole;
}

abbrev pub decreases-loop-j : goal.decreases-loop-j
decreases-loop-j l = l.to - l.from
