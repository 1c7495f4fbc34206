use Rattle.std.proofs.Common.{◌≡◌, ℕ, ◌+◌, ◌<◌, ◌≤◌, length}
use Rattle.layout.specs.declared.pointer.Pointer.TheVariants.{Hole}
use Rattle.conspoint.specs.Groups.{pointer_at}
use Rattle.conspoint.specs.MapFiles.{node_at}
use Rattle.conspoint.proofs.map_inode.top_pointers.Given as goal

abbrev pub invariant-loop-i : goal.invariant-loop-i
invariant-loop-i l = record {
  size : length l.pointers ≡ 16;
  placed : (k : ℕ) → k < l.i → pointer_at l.pointers k ≡ node_at l.settled l.places (l.first + k);
  rest : (k : ℕ) → l.i ≤ k → pointer_at l.pointers k ≡ Hole;
}
