use Rattle.std.proofs.Common.{◌↔◌, ◌⊎◌, ℕ, ◌<◌, All, Contains}
use Rattle.blocktree.specs.PlaceMaps.{AreBelow}
use Rattle.placement.specs.Nodes.{node}
use Rattle.placement.proofs.AmongLaws.{HasLeftBefore}
use Rattle.placement.proofs.nodes.add_changed.Given as goal

abbrev pub invariant-loop-k : goal.invariant-loop-k
invariant-loop-k l = record {
  left : (b : ℕ) → Contains l.blocks.items b ↔ (Contains l.fn.blocks.items b ⊎ HasLeftBefore l.k l.changed l.from (node l.to l.height) b);
  within : (disk : ℕ) → AreBelow disk l.from → All (λ b. b < disk) l.fn.blocks.items → All (λ b. b < disk) l.blocks.items;
}
