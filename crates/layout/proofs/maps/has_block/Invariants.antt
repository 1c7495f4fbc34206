use Rattle.std.proofs.Common.{◌≡◌, ℕ, ◌<◌}
use Rattle.layout.specs.Maps.{indirect_pointer}
use Rattle.layout.specs.declared.pointer.Pointer.TheVariants.{Hole}
use Rattle.layout.proofs.maps.has_block.Given as goal

abbrev pub invariant-loop-i : goal.invariant-loop-i
invariant-loop-i l = (k : ℕ) → k < l.i → indirect_pointer l.bytes k ≡ Hole
