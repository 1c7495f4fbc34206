use Rattle.std.proofs.Common.{ℕ, ◌<◌, IsTrue}
use Rattle.layout.specs.Maps.{indirect_pointer}
use Rattle.layout.specs.Pointer.{PointsBelow}
use Rattle.layout.proofs.indirect.all_fit.Given as goal

abbrev pub invariant-loop-i : goal.invariant-loop-i
invariant-loop-i l = IsTrue l.fit → (k : ℕ) → k < l.i → PointsBelow l.blocks (indirect_pointer l.bytes k)
