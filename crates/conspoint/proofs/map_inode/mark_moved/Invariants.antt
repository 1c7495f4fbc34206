use Rattle.std.proofs.Common.{ℕ}
use Rattle.blockmap.specs.Maps.{IsTouched}
use Rattle.conspoint.specs.MapFiles.{IsOfMoved}
use Rattle.conspoint.specs.Marks.{Marking}
use Rattle.conspoint.specs.Steps.{Keeps}
use Rattle.conspoint.proofs.map_inode.mark_moved.Given as goal

abbrev pub invariant-loop-k : goal.invariant-loop-k
invariant-loop-k l = record {
  step : Keeps l.fn.draft l.draft;
  same : (j : ℕ) → IsTouched l.draft.map.parts.items j → IsTouched l.fn.draft.map.parts.items j;
  marked : (b : ℕ) → Marking (IsOfMoved l.nodes l.places l.k) l.is_in l.fn.draft.map.parts.items l.draft.map.parts.items b;
}
