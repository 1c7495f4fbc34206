use Rattle.std.proofs.Common.{refl, ◌∙◌, arith, rules}
use Rattle.memory_station.specs.Unsynced.{kept_value}
use Rattle.memory_station.proofs.KeptLemmas.{kept_value-more}
use Rattle.memory_station.proofs.history.apply_marks.Goals as goal

pub loop-place-init : goal.loop-place-init
unfolding kept_value
loop-place-init c = record { size = refl; sectors = λ n. refl; count = omega arith; room = omega arith }

pub loop-place-preserved : goal.loop-place-preserved
loop-place-preserved c = record {
  size = search rules;
  sectors = λ n. c.apply_mark.ensures.sectors n ∙ rw c.mark.ensures (kept_value-more c.args.keep.now c.args.unsynced.now c.loop-place.place _ n _ _ (omega arith) (c.loop-place.invariant.sectors n));
  count = omega (arith, c.loop-place.invariant.count, c.apply_mark.ensures.count);
  room = omega (arith, c.loop-place.invariant.room, c.apply_mark.ensures.room);
}
