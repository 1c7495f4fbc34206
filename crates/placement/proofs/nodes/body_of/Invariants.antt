use Rattle.std.proofs.Common.{◌≡◌, ℕ, ◌<◌, ◌≤◌, length}
use Rattle.layout.specs.declared.pointer.Pointer.TheVariants.{Hole}
use Rattle.blocktree.specs.PlaceMaps.{place_at}
use Rattle.conspoint.specs.Groups.{pointer_at}
use Rattle.placement.proofs.nodes.body_of.Given as goal

abbrev pub invariant-loop-i : goal.invariant-loop-i
invariant-loop-i l = record {
  count : length l.body ≡ 16;
  below : (k : ℕ) → k < l.i → pointer_at l.body k ≡ place_at l.places k;
  above : (k : ℕ) → l.i ≤ k → pointer_at l.body k ≡ Hole;
}
