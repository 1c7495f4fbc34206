use Rattle.std.proofs.Common.{◌≡◌, ℕ, ◌+◌, ◌*◌, ◌<◌, length}
use Rattle.layout.specs.Maps.{map_entry}
use Rattle.making.specs.Starts as starts
use Rattle.making.proofs.map.empty_part.Given as goal

abbrev pub invariant-loop-i : goal.invariant-loop-i
invariant-loop-i l = record {
  size : length l.bytes ≡ 4096;
  set : (j : ℕ) → j < l.i → map_entry l.bytes j ≡ starts.system_entry (1024 * l.k + j);
}
