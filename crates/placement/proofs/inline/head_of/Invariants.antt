use Rattle.std.proofs.Common.{◌≡◌, ℕ, ◌<◌, ◌≤◌, length}
use Rattle.std.specs.Prelude.{slice_index}
use Rattle.placement.proofs.inline.head_of.Given as goal

abbrev pub invariant-loop-i : goal.invariant-loop-i
invariant-loop-i l = record {
  count : length l.bytes ≡ 128;
  below : (k : ℕ) → k < l.i → slice_index l.bytes k ≡ slice_index l.block k;
  above : (k : ℕ) → l.i ≤ k → slice_index l.bytes k ≡ 0;
}
