use Rattle.std.proofs.Common.{refl}
use Rattle.records.proofs.LaterLaws.{brings_failed, brings_told, none_given}
use Rattle.records.proofs.prepared.with_marks.Goals as goal

pub returns-in_err-load_marked : goal.returns-in_err-load_marked
returns-in_err-load_marked g c = record {
  brings = brings_failed c.from_residual.result c.from_residual.ensures.1 c.in_err-load_marked.ensures;
  is = none_given _ _ c.from_residual.result c.from_residual.ensures.1;
}

pub returns : goal.returns
returns g c = record { brings = brings_told c.in_ok-load_marked.ensures; is = refl }
