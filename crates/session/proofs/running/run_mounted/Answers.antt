use Rattle.std.proofs.Common.{Bool, sym, subst}
use Rattle.std.specs.Fn.{FnReturnsAt}
use Rattle.session.specs.Sessions.{EndsShowing}
use Rattle.session.proofs.running.run_mounted.Goals as goal

pub returns-clause-ends : goal.returns-clause-ends
returns-clause-ends g c =
    let ran = c.run_commands-status.ensures.ends in
    let is = c.into_station.ensures.station in (
      ran.0,
      record { last = c.run_commands-status.new.fs; station = sym is; done = ran.1 },
      subst (λ s. EndsShowing c.args.stops (λ (b : Bool). FnReturnsAt g.C.Fn c.args.was_cut.now s b) c.args.commands.now ran.0 (g.O.Write.contents c.args.out.now.inner) (g.O.Write.contents c.run_commands-status.new.out.inner) c.run_commands-status.result)
          (sym is) ran.2,
    )
