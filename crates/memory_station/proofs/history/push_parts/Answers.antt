use Rattle.std.proofs.Common.{arith, add-one, append_assoc}
use Rattle.std.proofs.lemmas.Grind.{common_steps}
use Rattle.std.proofs.lemmas.Slice.{pushed}
use Rattle.memory_station.proofs.history.push_parts.Goals as goal

pub loop-part-preserved : goal.loop-part-preserved
loop-part-preserved c = (
  rw (add-one, ← append_assoc, ← c.sector_write.ensures) (pushed _ c.loop-part.invariant.0 c.unwrap.ensures c.push.ensures.items),
  grind (arith, common_steps),
  omega (arith, c.push.ensures.capacity),
)
