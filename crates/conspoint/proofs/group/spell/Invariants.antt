use Rattle.std.proofs.Common.{◌≡◌, ℕ, ◌<◌, length}
use Rattle.layout.specs.Maps.{indirect_pointer}
use Rattle.conspoint.specs.Groups.{pointer_at}
use Rattle.conspoint.proofs.group.spell.Given as goal

abbrev pub invariant-loop-i : goal.invariant-loop-i
invariant-loop-i l = record {
  size : length l.bytes ≡ 4096;
  spelled : (k : ℕ) → k < l.i → indirect_pointer l.bytes k ≡ pointer_at l.pointers k;
}
