use Rattle.std.proofs.Common.{arith, ap, ◌∙◌, Ok}
use Rattle.station.proofs.Calls.{writes_twice}
use Rattle.conspoint.specs.Plans.{Planned}
use Rattle.conspoint.specs.Cuts.{IsFault}
use Rattle.conspoint.proofs.Writes.{goes_stays_on}
use Rattle.conspoint.proofs.plan.Plan.write_some.Goals as goal

pub returns-in_err-write_next-clause-goes : goal.returns-in_err-write_next-clause-goes
returns-in_err-write_next-clause-goes g c =
    goes_stays_on c.args.self.now.blocks c.loop.self.blocks _ (g.S.Station.meaning c.loop.buffers.station) _ (ap (λ (p : Planned). p.blocks) c.loop.invariant.plan) c.loop.invariant.goes c.write_next.ensures.goes

pub loop-preserved : goal.loop-preserved
loop-preserved g c =
    let so_far = c.loop.invariant in
    let m0 = g.S.Station.meaning c.args.buffers.now.station in
    let m = g.S.Station.meaning c.loop.buffers.station in
    let m1 = g.S.Station.meaning c.write_next.new.buffers.station in
    record {
      plan = c.write_next.ensures.plan ∙ ap (λ (p : Planned). record p { written = c.write_next.new.self.written }) so_far.plan;
      next = omega (arith, so_far.next, c.in_ok-write_next.ensures.next);
      writes = writes_twice IsFault IsFault m0 m m1 tt (Ok tt) so_far.writes c.in_ok-write_next.ensures.writes;
      goes = goes_stays_on c.args.self.now.blocks c.loop.self.blocks m0 m m1 (ap (λ (p : Planned). p.blocks) so_far.plan) so_far.goes c.write_next.ensures.goes;
      written = λ holds. c.in_ok-write_next.ensures.written (so_far.written holds);
      shows = λ disk shows. c.in_ok-write_next.ensures.shows disk (so_far.shows disk shows);
    }
