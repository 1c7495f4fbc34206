use Rattle.std.proofs.Common.{◌≡◌, ℕ, ◌+◌, ◌-◌, ◌*◌, ◌<◌, ◌≤◌}
use Rattle.layout.specs.Trees.{fan_out}
use Rattle.layout.specs.declared.pointer.Pointer.TheVariants.{Hole}
use Rattle.blocktree.specs.PlaceMaps.{place_at}
use Rattle.placement.specs.Nodes.{most_groups}
use Rattle.placement.proofs.settled.is_full.Given as goal

abbrev pub invariant-loop-next : goal.invariant-loop-next
invariant-loop-next l = record {
  high : l.next ≤ most_groups l.layout;
  full : (j : ℕ) → j < l.next → ((i : ℕ) → i < fan_out l.layout → place_at l.below (fan_out l.layout * j + i) ≡ Hole) → place_at l.over j ≡ Hole;
}

abbrev pub decreases-loop-next : goal.decreases-loop-next
decreases-loop-next l = most_groups l.layout - l.next
