use Rattle.std.proofs.Common.{ℕ, ◌≡◌, ◌≤◌, length}
use Rattle.std.specs.Prelude.{slice_index}
use Rattle.std.specs.Int.{bit_at}
use Rattle.blockmap.specs.Bits.{SetsPlane}
use Rattle.blockmap.proofs.part.MapPart.load_set.Given as goal

abbrev pub invariant-loop-i : goal.invariant-loop-i
invariant-loop-i l = record {
  settled : l.self.settled ≡ l.fn.self.settled;
  touched : l.self.is_touched ≡ l.fn.self.is_touched;
  long : length l.self.entries ≡ length l.fn.self.entries;
  done : SetsPlane l.i 0 (λ i. bit_at (slice_index l.fn.self.settled i) l.set) (slice_index l.fn.self.entries) (slice_index l.self.entries);
  rest : (k : ℕ) → l.i ≤ k → slice_index l.self.entries k ≡ slice_index l.fn.self.entries k;
}
