use Rattle.std.proofs.Common.{ℕ, ◌<◌}
use Rattle.std.specs.Prelude.{slice_index}
use Rattle.blockmap.specs.Bits.{HasBit}
use Rattle.blockmap.proofs.part.MapPart.has_set.Given as goal

abbrev pub invariant-loop-i : goal.invariant-loop-i
invariant-loop-i l = (b : ℕ) → b < l.i → HasBit l.set (slice_index l.self.entries b) → ⊥
