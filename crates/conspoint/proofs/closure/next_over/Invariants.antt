use Rattle.std.proofs.Common.{◌≢◌, ℕ, ◌+◌, ◌/◌, ◌<◌, length}
use Rattle.layout.specs.declared.pointer.Pointer.TheVariants.{Hole}
use Rattle.conspoint.specs.Groups.{pointer_at}
use Rattle.conspoint.proofs.closure.next_over.Given as goal

abbrev pub invariant-loop-k : goal.invariant-loop-k
invariant-loop-k l =
    (k : ℕ) → k < l.k → length l.draft.map.parts.items + k / 1024 < length l.places → pointer_at l.places k ≢ Hole → pointer_at l.places (length l.draft.map.parts.items + k / 1024) ≢ Hole
