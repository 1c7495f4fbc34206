use Rattle.std.proofs.Common.{◌≡◌, ◌+◌, ◌*◌, length, ◌∙◌, sym, ap, arith, rules, false}
use Rattle.station.specs.Images.{Images, unreadable}
use Rattle.buffers.specs.Readings.{reads_none}
use Rattle.buffers.proofs.SectorLaws.{block_read, told_lost, whole_sectors}
use Rattle.buffers.proofs.cache.read_sectors.Goals as goal

pub loop-i-init : goal.loop-i-init
loop-i-init g c = record {
  reads = reads_none (g.S.Station.meaning c.args.station.now);
  counted = λ i. (g.S.Station.meaning c.args.station.now).failed_reads;
  full = c.is_whole.ensures;
  whole = λ honest k low. absurd (omega (arith, low));
  bytes = λ honest r low. absurd (omega (arith, low));
}

pub returns-then-not-is_readable-clause-damaged : goal.returns-then-not-is_readable-clause-damaged
returns-then-not-is_readable-clause-damaged g c = λ _ honest whole.
    let s = c.args.station.now in
    let m = g.S.Station.meaning s in
    let at = 8 * c.args.place + c.loop-i.i in
    let went = c.loop-i.invariant.reads.goes honest in
    let no : c.in-Ok.is_readable ≡ false = search rules in
    let read = 8 * c.from.result + c.loop-i.i in
    let lost : m.seen.disk at ≡ unreadable = ap (λ n. m.seen.disk (8 * n + c.loop-i.i)) (sym c.from.ensures) ∙ ap (λ (i : Images). i.disk read) (sym went.seen) ∙ told_lost c.in-Ok.is_readable _ _ no (c.in-Ok.ensures.bytes went.honest) in
    let sized = (g.met.S.Station.sized s honest m.seen (g.met.S.Station.seen_may_be_left s honest)).sector in
    let long = whole_sectors m.seen.disk c.args.place (λ i lt. sized (8 * c.args.place + i) (omega (arith, lt, c.requires.within))) whole c.loop-i.i (omega (arith, c.loop-i-test.true)) in
    let none : length (m.seen.disk at) ≡ 0 = ap length lost in
    absurd (omega (arith, long, none))

pub returns-clause-block : goal.returns-clause-block
returns-clause-block g c = λ honest.
    block_read (g.S.Station.meaning c.args.station.now).seen.disk c.args.place c.loop-i.block c.loop-i.invariant.full
    (λ i lt. c.loop-i.invariant.whole honest i (omega (arith, c.loop-i-test.false, lt)))
    (λ r lt. c.loop-i.invariant.bytes honest r (omega (arith, c.loop-i-test.false, lt)))
