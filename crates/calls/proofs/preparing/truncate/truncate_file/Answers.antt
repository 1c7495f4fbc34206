use Rattle.std.proofs.Common.{Option, Ok, Err, IfOk, IfSome, refl, subst}
use Rattle.layout.specs.StateLimits.{limits_of}
use Rattle.model.specs.Records.{stamped, truncate}
use Rattle.model.specs.declared.errno.Errno.TheVariants.{EFBIG}
use Rattle.records.specs.Failures.{read_outcome}
use Rattle.records.specs.Prepared.{Does, IsReady}
use Rattle.records.specs.Rewriting.{TruncatesBytes}
use Rattle.records.specs.declared.failure.Failure.{Failure}
use Rattle.records.specs.declared.prepared.Prepared.{Prepared}
use Rattle.calls.proofs.PrepareSteps.{fails_by, grants}
use Rattle.calls.proofs.preparing.truncate.truncate_file.Goals as goal

pub returns-in_err-planned : goal.returns-in_err-planned
returns-in_err-planned g c =
    let all = c.in_err-planned.ensures in
    fails_by {X = Option Prepared} EFBIG refl _ c.from_residual.result c.from_residual.ensures.1 all.looks all.own all.damaged (λ disk settled v table stands volume mounted is file.
    subst (λ (f : Failure). IfOk (read_outcome {T = Option Prepared} (Err f)) (TruncatesBytes (limits_of c.args.inodes.now.geometry) c.args.now v table c.args.number c.args.size)) is
    (all.answers disk settled v table stands volume mounted file))

pub returns-in_default : goal.returns-in_default
returns-in_default g c = grants c.in_ok-planned.ensures.looks tt tt (λ disk settled v stands. tt) (λ disk settled v table stands volume mounted is.
    subst (λ p. TruncatesBytes (limits_of c.args.inodes.now.geometry) c.args.now v table c.args.number c.args.size (Ok p)) c.in_default.is (c.in_ok-planned.ensures.answers disk settled v table stands volume mounted is))

pub returns : goal.returns
returns g c = grants c.in_ok-planned.ensures.looks (subst (λ p. IfSome p (IsReady c.truncate_bytes.new.inodes)) c.in-Some.is c.in_ok-planned.ensures.ready) (refl, tt)
    (λ disk settled v stands.
    subst (λ p. IfSome p (λ x. Does disk settled c.truncate_bytes.new.inodes v x (stamped c.args.now (truncate c.args.number c.args.size)))) c.in-Some.is (c.in_ok-planned.ensures.does disk settled v stands))
    (λ disk settled v table stands volume mounted is. (
      refl,
      subst (λ p. TruncatesBytes (limits_of c.args.inodes.now.geometry) c.args.now v table c.args.number c.args.size (Ok p)) c.in-Some.is (c.in_ok-planned.ensures.answers disk settled v table stands volume mounted is),
    ))
