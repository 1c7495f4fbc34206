use Rattle.std.proofs.Common.{◌≢◌, ℕ, ◌<◌}
use Rattle.layout.specs.declared.pointer.Pointer.TheVariants.{Hole}
use Rattle.blockmap.specs.Maps.{IsTouched}
use Rattle.conspoint.specs.Groups.{pointer_at}
use Rattle.conspoint.proofs.closure.next_touched.Given as goal

abbrev pub invariant-loop-k : goal.invariant-loop-k
invariant-loop-k l = (k : ℕ) → k < l.k → IsTouched l.draft.map.parts.items k → pointer_at l.places k ≢ Hole
