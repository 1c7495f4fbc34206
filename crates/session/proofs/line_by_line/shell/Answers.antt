use Rattle.std.proofs.Common.{Bool, refl, sym, subst}
use Rattle.std.specs.Fn.{FnReturnsAt}
use Rattle.session.specs.Shells.{EndsListening}
use Rattle.session.proofs.line_by_line.shell.Goals as goal

pub returns-in-Ok-clause-ends : goal.returns-in-Ok-clause-ends
returns-in-Ok-clause-ends g c =
    let told = c.answer_lines-status.ensures in
    let is = c.into_station.ensures.station in
    record {
      fs = c.in-Ok.fs;
      is_mounted = record { goes = c.in-Ok.ensures.goes; going = c.in-Ok.ensures.going; finds = c.in-Ok.ensures.opens; found = c.in-Ok.ensures.found };
      last = c.answer_lines-status.new.fs;
      station = sym is;
      ends = subst (λ s. EndsListening {G = g.S.Station} c.in-Ok.fs c.answer_lines-status.new.fs (λ (b : Bool). FnReturnsAt g.C.Fn c.args.was_cut s b) (g.R.Read.remaining c.args.input.now.inner) (g.O.Write.contents c.args.out.now.inner)
          (g.O.Write.contents c.answer_lines-status.new.out.inner) c.answer_lines-status.result) (sym is) told.ends;
      tells = told.quiet;
    }

pub returns-clause-ends : goal.returns-clause-ends
returns-clause-ends g c = record {
  goes = c.in-Err.ensures.goes;
  refusal = record {
    device = c.in-Err.ensures.device;
    no_root = c.in-Err.ensures.no_root;
    rootless = c.in-Err.ensures.rootless;
    faultless = c.in-Err.ensures.faultless;
    opens = c.in-Err.ensures.opens;
  };
  unread = refl;
  shows = refl;
  tells = c.tell.ensures.tells;
}
