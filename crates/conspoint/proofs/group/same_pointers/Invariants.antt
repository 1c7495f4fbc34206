use Rattle.std.proofs.Common.{◌≡◌, ℕ, ◌<◌}
use Rattle.conspoint.specs.Groups.{pointer_at}
use Rattle.conspoint.proofs.group.same_pointers.Given as goal

abbrev pub invariant-loop-i : goal.invariant-loop-i
invariant-loop-i l = (k : ℕ) → k < l.i → pointer_at l.new k ≡ pointer_at l.old k
