use Rattle.std.proofs.Common.{◌≡◌, ℕ, length}
use Rattle.layout.specs.declared.pointer.Pointer.TheVariants.{Hole}
use Rattle.conspoint.specs.Groups.{pointer_at}
use Rattle.conspoint.proofs.map_inode.holes.Given as goal

abbrev pub invariant-loop : goal.invariant-loop
invariant-loop l = record {
  count : length l.holes.items ≡ l.counter;
  all : (k : ℕ) → pointer_at l.holes.items k ≡ Hole;
}
