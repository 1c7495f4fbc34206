use Rattle.std.proofs.Common.{◌↔◌, ℕ, ◌<◌, All, Contains}
use Rattle.placement.specs.Nodes.{AreWithin}
use Rattle.placement.proofs.ListLaws.{HasMovedBelow}
use Rattle.placement.proofs.nodes.moved.Given as goal

abbrev pub invariant-loop-height : goal.invariant-loop-height
invariant-loop-height l = record {
  moved : (b : ℕ) → Contains l.blocks.items b ↔ HasMovedBelow l.height l.from l.to b;
  within : (disk : ℕ) → AreWithin disk l.from → All (λ b. b < disk) l.blocks.items;
}
