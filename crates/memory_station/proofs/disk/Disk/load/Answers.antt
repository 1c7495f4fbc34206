use Rattle.std.proofs.Common.{sym, ◌∙◌, ap, arith, get_or}
use Rattle.std.specs.Prelude.{◌==◌, if◌then◌else◌}
use Rattle.station.specs.Images.{unreadable}
use Rattle.memory_station.proofs.BadLemmas.{sectors_with-more}
use Rattle.memory_station.proofs.disk.Disk.load.Goals as goal

pub lose-requires-clause-place : goal.lose-requires-clause-place
lose-requires-clause-place c = omega (arith, c.requires c.loop-place.place 0 (omega arith), c.loop-place.invariant.size)

pub loop-place-preserved : goal.loop-place-preserved
loop-place-preserved c =
    let bad = c.args.bad.now in
    let place = c.loop-place.place in
    record {
      size = c.lose.ensures.size ∙ c.loop-place.invariant.size;
      sectors = λ n. c.lose.ensures.sectors n ∙ ap (λ s. if get_or bad place 0 == n then unreadable else s) (c.loop-place.invariant.sectors n) ∙ sym (sectors_with-more c.args.bytes.items bad place 0 n (omega arith));
      count = omega (arith, c.lose.ensures.count, c.loop-place.invariant.count);
      room = omega (arith, c.lose.ensures.room, c.loop-place.invariant.room);
    }
