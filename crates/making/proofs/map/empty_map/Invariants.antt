use Rattle.std.proofs.Common.{◌≡◌, ℕ, ◌<◌, length}
use Rattle.std.specs.Prelude.{slice_index_or}
use Rattle.blockmap.specs.Maps.{no_part}
use Rattle.making.specs.Starts.{IsEmptyPart}
use Rattle.making.proofs.map.empty_map.Given as goal

abbrev pub invariant-loop-k : goal.invariant-loop-k
invariant-loop-k l = record {
  count : length l.parts.items ≡ l.k;
  each : (j : ℕ) → j < l.k → IsEmptyPart j (slice_index_or l.parts.items j no_part);
}
