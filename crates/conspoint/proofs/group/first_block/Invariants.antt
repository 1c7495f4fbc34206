use Rattle.std.proofs.Common.{◌≡◌, ℕ, ◌<◌}
use Rattle.layout.specs.declared.pointer.Pointer.TheVariants.{Hole}
use Rattle.conspoint.specs.Groups.{pointer_at}
use Rattle.conspoint.proofs.group.first_block.Given as goal

abbrev pub invariant-loop-i : goal.invariant-loop-i
invariant-loop-i l = (k : ℕ) → k < l.i → pointer_at l.pointers k ≡ Hole
