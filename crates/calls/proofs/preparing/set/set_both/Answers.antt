use Rattle.std.proofs.Common.{Option, Ok, Err, IfOk, IfSome, refl, subst}
use Rattle.layout.specs.StateLimits.{limits_of}
use Rattle.model.specs.Records.{set_file, stamped}
use Rattle.model.specs.declared.errno.Errno.TheVariants.{EFBIG}
use Rattle.records.specs.Failures.{read_outcome}
use Rattle.records.specs.Prepared.{Does, IsReady}
use Rattle.records.specs.Rewriting.{SetsBoth}
use Rattle.records.specs.declared.failure.Failure.{Failure}
use Rattle.records.specs.declared.prepared.Prepared.{Prepared}
use Rattle.calls.specs.declared.changed.OwnedChange.TheVariants as owned
use Rattle.calls.proofs.PrepareSteps.{fails_by, follows, grants}
use Rattle.calls.proofs.SetLaws.{file_has_mode, sets_both_comes, sets_mode_alone}
use Rattle.calls.proofs.preparing.set.set_both.Goals as goal

pub returns-in_err-planned : goal.returns-in_err-planned
returns-in_err-planned g c =
    let all = c.in_err-planned.ensures in
    fails_by {X = Option Prepared} EFBIG refl _ c.from_residual.result c.from_residual.ensures.1 all.looks all.own all.damaged (λ disk settled v table stands volume mounted is file.
    absurd (subst (λ (f : Failure). IfOk (read_outcome {T = Option Prepared} (Err f)) (SetsBoth (limits_of c.args.inodes.now.geometry) c.args.now v table c.args.number c.args.mode c.args.size)) is
    (all.answers disk settled v table stands volume mounted file)))

pub returns-in-Some : goal.returns-in-Some
returns-in-Some g c = grants c.in_ok-planned.ensures.looks (subst (λ p. IfSome p (IsReady c.set_bytes.new.inodes)) c.in-Some.is c.in_ok-planned.ensures.ready) (refl, tt)
    (λ disk settled v stands.
    subst (λ p. IfSome p (λ x. Does disk settled c.set_bytes.new.inodes v x (stamped c.args.now (set_file c.args.number c.args.mode c.args.size)))) c.in-Some.is (c.in_ok-planned.ensures.does disk settled v stands))
    (λ disk settled v table stands volume mounted is.
    sets_both_comes (limits_of c.args.inodes.now.geometry) c.args.now v table c.args.number c.args.mode c.args.size (record { time = c.args.now; change = owned.SetFile c.args.number c.args.mode c.args.size; prepared = c.in-Some.prepared }) refl
    (subst (λ p. SetsBoth (limits_of c.args.inodes.now.geometry) c.args.now v table c.args.number c.args.mode c.args.size (Ok p)) c.in-Some.is (c.in_ok-planned.ensures.answers disk settled v table stands volume mounted is)))

pub returns-in-None : goal.returns-in-None
returns-in-None g c = follows c.in_ok-planned.ensures.looks c.set_mode.ensures (λ disk settled v table stands volume mounted r given is.
    sets_mode_alone (limits_of c.args.inodes.now.geometry) c.args.now v table c.args.number c.args.mode c.args.size r
    (subst (λ p. SetsBoth (limits_of c.args.inodes.now.geometry) c.args.now v table c.args.number c.args.mode c.args.size (Ok p)) c.in-None.is (c.in_ok-planned.ensures.answers disk settled v table stands volume mounted is))
    (given (file_has_mode (v c.args.number) is)))
