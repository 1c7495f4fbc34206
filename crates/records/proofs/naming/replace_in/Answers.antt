use Rattle.std.proofs.Common.{None, arith}
use Rattle.dirs.specs.Directory.{with_name}
use Rattle.records.proofs.NamingLaws.{edit_follows, edit_stops, replaced_names}
use Rattle.records.proofs.naming.replace_in.Goals as goal

pub returns-in_err-edit : goal.returns-in_err-edit
returns-in_err-edit g c = edit_stops c.from_residual.result c.from_residual.ensures.1 c.in_err-edit.ensures.reads c.remove_in.ensures.same
    (λ disk names shows bad had. c.in_err-edit.ensures.damaged disk names shows bad had.0)

pub returns : goal.returns
returns g c =
    edit_follows c.in_ok-edit.ensures.reads c.remove_in.ensures.same c.add_new.ensures (omega (arith, c.in_ok-edit.ensures.pieces)) (with_name c.args.entry.now.name.now None)
    (λ disk names shows had. c.in_ok-edit.ensures.edited disk names shows had.1 had.0)
    (λ disk names shows had o is. replaced_names c.args.limits disk c.add_new.new.file c.add_new.new.known c.args.entry.now names o is)
