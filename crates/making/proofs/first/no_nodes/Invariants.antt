use Rattle.std.proofs.Common.{◌≡◌, ℕ, length}
use Rattle.layout.specs.declared.pointer.Pointer.TheVariants.{Hole}
use Rattle.conspoint.specs.Groups.{pointer_at}
use Rattle.making.proofs.first.no_nodes.Given as goal

abbrev pub invariant-loop : goal.invariant-loop
invariant-loop l = record {
  size : length l.nodes.items ≡ l.counter;
  none : (k : ℕ) → pointer_at l.nodes.items k ≡ Hole;
}
