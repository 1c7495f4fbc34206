use Rattle.std.proofs.Common.{ℕ, ◌≢◌, ◌-◌, ◌<◌, ◌≤◌}
use Rattle.layout.specs.declared.pointer.Pointer.TheVariants.{Hole}
use Rattle.blocktree.specs.PlaceMaps.{place_at}
use Rattle.loading.proofs.maps.has_hole.Given as goal

abbrev pub invariant-loop-node : goal.invariant-loop-node
invariant-loop-node l = record { low : l.from ≤ l.count; stored : (k : ℕ) → k < l.from → place_at l.places k ≢ Hole }

abbrev pub decreases-loop-node : goal.decreases-loop-node
decreases-loop-node l = l.count - l.from
