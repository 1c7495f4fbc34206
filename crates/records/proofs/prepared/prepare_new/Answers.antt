use Rattle.std.proofs.Common.{◌≡◌, IfErr, subst, sym}
use Rattle.layout.specs.StateLimits.{limits_of}
use Rattle.layout.specs.Limits.{Sizes}
use Rattle.model.specs.Attributes.{KeepsTime}
use Rattle.model.specs.Records.{TakesName}
use Rattle.model.specs.declared.errno.Errno.TheVariants.{DIRFULL}
use Rattle.paths.proofs.Looks.{looks_more, looks_ok}
use Rattle.records.proofs.Failures.{damaged_by, damaged_read, looks_failed, looks_read, read_told, refused_by}
use Rattle.records.proofs.Recording.{completed_does, completed_ready}
use Rattle.records.proofs.prepared.prepare_new.Goals as goal

pub returns-in_err-plan-clause-looks : goal.returns-in_err-plan-clause-looks
returns-in_err-plan-clause-looks g c = looks_failed _ c.from_residual.result c.from_residual.ensures.1 c.in_err-plan.ensures.looks

pub returns-in_err-plan-clause-full : goal.returns-in_err-plan-clause-full
returns-in_err-plan-clause-full g c = refused_by (λ r. IfErr r (λ e. e ≡ DIRFULL)) _ _ c.from_residual.result c.from_residual.ensures.1 (λ errno full. full) c.in_err-plan.ensures.full

pub returns-in_err-plan-clause-refused : goal.returns-in_err-plan-clause-refused
returns-in_err-plan-clause-refused g c = λ detail disk settled v stands volume.
    refused_by (λ r. IfErr r (λ _. TakesName (limits_of c.args.inodes.now.geometry) v c.args.parent c.args.name.now → ⊥)) _ _ c.from_residual.result c.from_residual.ensures.1 (λ errno never. never)
    (c.in_err-plan.ensures.refused detail disk settled v stands volume)

pub returns-in_err-plan-clause-damaged : goal.returns-in_err-plan-clause-damaged
returns-in_err-plan-clause-damaged g c = λ detail disk settled v stands. damaged_by _ c.from_residual.result c.from_residual.ensures.1 (c.in_err-plan.ensures.damaged detail disk settled v stands)

pub returns-in_err-prepared-clause-looks : goal.returns-in_err-prepared-clause-looks
returns-in_err-prepared-clause-looks g c =
    looks_read c.from_residual-in_err-prepared.result c.from_residual-in_err-prepared.ensures.1 (looks_more c.in_ok-plan.ensures.looks c.in_err-prepared.ensures.brings.brings.looks)

pub returns-in_err-prepared-clause-full : goal.returns-in_err-prepared-clause-full
returns-in_err-prepared-clause-full g c = read_told (λ r. IfErr r (λ e. e ≡ DIRFULL)) _ c.from_residual-in_err-prepared.result c.from_residual-in_err-prepared.ensures.1

pub returns-in_err-prepared-clause-refused : goal.returns-in_err-prepared-clause-refused
returns-in_err-prepared-clause-refused g c = λ detail disk settled v stands volume.
    read_told (λ r. IfErr r (λ _. TakesName (limits_of c.args.inodes.now.geometry) v c.args.parent c.args.name.now → ⊥)) _ c.from_residual-in_err-prepared.result c.from_residual-in_err-prepared.ensures.1

pub returns-in_err-prepared-clause-damaged : goal.returns-in_err-prepared-clause-damaged
returns-in_err-prepared-clause-damaged g c = λ detail disk settled v stands.
    damaged_read c.from_residual-in_err-prepared.result c.from_residual-in_err-prepared.ensures.1
    (c.in_err-prepared.ensures.brings.brings.damaged {detail = detail} disk settled v (c.in_ok-plan.ensures.looks.kept {detail = detail} disk settled v stands))

pub returns-clause-looks : goal.returns-clause-looks
returns-clause-looks g c = looks_ok (looks_more c.in_ok-plan.ensures.looks c.in_ok-prepared.ensures.brings.brings.looks)

pub returns-clause-ready : goal.returns-clause-ready
returns-clause-ready g c =
    let marks = c.of_entry-marks in
    completed_ready c.in_ok-prepared.ensures c.in_ok-plan.ensures.ready
    (subst (λ (z : Sizes). KeepsTime (limits_of z).has_attributes marks.result.time) (sym c.in_ok-plan.ensures.looks.geometry)
    (subst (KeepsTime (limits_of c.args.inodes.now.geometry).has_attributes) (sym marks.ensures.time) c.requires.time))

pub returns-clause-does : goal.returns-clause-does
returns-clause-does g c = λ detail disk settled v made stands free object small.
    completed_does c.in_ok-prepared.ensures detail disk settled v c.in_ok-plan.ensures.ready c.of_entry-marks.ensures.time c.of_entry-marks.ensures.touches
    (c.in_ok-plan.ensures.does detail disk settled v made stands free object small)
