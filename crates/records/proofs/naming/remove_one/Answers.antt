use Rattle.records.proofs.NamingLaws.{edit_stops}
use Rattle.records.proofs.StandLaws.{reads_ok}
use Rattle.records.proofs.naming.remove_one.Goals as goal

pub returns-in_err-edit : goal.returns-in_err-edit
returns-in_err-edit g c = edit_stops c.from_residual.result c.from_residual.ensures.1 c.in_err-edit.ensures.reads c.remove_in.ensures.same
    (λ disk names shows bad had. c.in_err-edit.ensures.damaged disk names shows bad had.0)

pub returns : goal.returns
returns g c = record {
  reads = reads_ok c.in_ok-edit.ensures.reads;
  same = c.remove_in.ensures.same;
  fits = c.in_ok-edit.ensures.fits;
  pieces = c.in_ok-edit.ensures.pieces;
  edited = λ disk names shows had. let now = c.in_ok-edit.ensures.edited disk names shows had.1 had.0 in (tt, now.0, now.1);
  damaged = λ disk names shows is had grammar. cc;
}
