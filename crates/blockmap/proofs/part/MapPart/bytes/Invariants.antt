use Rattle.std.proofs.Common.{ℕ, ◌≡◌, ◌<◌, length}
use Rattle.std.specs.Prelude.{slice_index}
use Rattle.layout.specs.Maps.{map_entry}
use Rattle.blockmap.proofs.part.MapPart.bytes.Given as goal

abbrev pub invariant-loop-i : goal.invariant-loop-i
invariant-loop-i l = record {
  size : length l.bytes ≡ 4096;
  spelled : (k : ℕ) → k < l.i → map_entry l.bytes k ≡ slice_index l.self.entries k;
}
