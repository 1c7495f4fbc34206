use Rattle.std.proofs.Common.{Err, IfErr, IfOk, inl, inr, refl, subst}
use Rattle.layout.specs.StateLimits.{limits_of}
use Rattle.model.specs.Records.{TakesName}
use Rattle.model.specs.declared.errno.Errno.TheVariants.{DIRFULL}
use Rattle.images.specs.Soundness.{by_bytes}
use Rattle.records.specs.Failures.{read_outcome}
use Rattle.records.specs.declared.failure.Failure.{Failure}
use Rattle.records.specs.declared.prepared.Prepared.{Prepared}
use Rattle.calls.proofs.PrepareSteps.{fails_by, refuses}
use Rattle.calls.proofs.making.refuse_in.Goals as goal

pub returns-in_err-_prepared-clause-prepares : goal.returns-in_err-_prepared-clause-prepares
returns-in_err-_prepared-clause-prepares g c =
    let all = c.in_err-_prepared.ensures in
    fails_by {X = Prepared} DIRFULL refl _ c.from_residual.result c.from_residual.ensures.1 all.looks all.full (λ disk settled v stands. all.damaged by_bytes disk settled v stands) (λ disk settled v table stands volume mounted is made none.
    inl (refl, subst (λ (f : Failure). IfOk (read_outcome {T = Prepared} (Err f)) (λ r. IfErr r (λ _. TakesName (limits_of c.args.inodes.now.geometry) v c.args.parent c.args.name.now → ⊥))) is (all.refused by_bytes disk settled v stands volume)))

pub returns-clause-prepares : goal.returns-clause-prepares
returns-clause-prepares g c = refuses c.in_ok-_prepared.ensures.looks refl (λ disk settled v table stands volume mounted made none.
    inr (refl, c.in_ok-_prepared.ensures.takes by_bytes disk settled v stands, none))
