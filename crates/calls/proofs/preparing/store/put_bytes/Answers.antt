use Rattle.std.proofs.Common.{rules, Option, Ok, Err, IfOk, IfSome, refl, subst}
use Rattle.layout.specs.StateLimits.{limits_of}
use Rattle.model.specs.Records.{stamped, write}
use Rattle.records.specs.Failures.{read_outcome}
use Rattle.records.specs.Prepared.{Does}
use Rattle.records.specs.Rewriting.{PutsBytes}
use Rattle.records.specs.declared.failure.Failure.{Failure}
use Rattle.records.specs.declared.prepared.Prepared.{Prepared}
use Rattle.calls.proofs.StoreSteps.{fails, grants}
use Rattle.calls.proofs.preparing.store.put_bytes.Goals as goal

pub returns-in_err-planned : goal.returns-in_err-planned
returns-in_err-planned g c =
    let all = c.in_err-planned.ensures in
    fails {X = Option Prepared} _ c.from_residual.result c.from_residual.ensures.1 all.looks all.own all.damaged (λ disk settled v table stands volume mounted errno is file.
    subst (λ (f : Failure). IfOk (read_outcome {T = Option Prepared} (Err f)) (PutsBytes (limits_of c.args.inodes.now.geometry) c.args.now v table c.args.number c.args.offset c.args.bytes.now)) is
    (all.answers disk settled v table stands volume mounted file))

pub returns-in_default : goal.returns-in_default
returns-in_default g c = grants c.in_ok-planned.ensures.looks tt tt (λ disk settled v stands. tt) (λ disk settled v table stands volume mounted is.
    subst (λ (o : Option Prepared). PutsBytes (limits_of c.args.inodes.now.geometry) c.args.now v table c.args.number c.args.offset c.args.bytes.now (Ok o)) c.in_default.is
    (c.in_ok-planned.ensures.answers disk settled v table stands volume mounted is))

pub returns : goal.returns
returns g c = grants c.in_ok-planned.ensures.looks (search rules) (search rules)
    (λ disk settled v stands. subst (λ (o : Option Prepared). IfSome o (λ x. Does disk settled c.write_bytes.new.inodes v x (stamped c.args.now (write c.args.number c.args.offset c.args.bytes.now)))) c.in-Some.is
    (c.in_ok-planned.ensures.does disk settled v stands))
    (λ disk settled v table stands volume mounted is. (
      refl,
      refl,
      subst (λ (o : Option Prepared). PutsBytes (limits_of c.args.inodes.now.geometry) c.args.now v table c.args.number c.args.offset c.args.bytes.now (Ok o)) c.in-Some.is
          (c.in_ok-planned.ensures.answers disk settled v table stands volume mounted is),
    ))
