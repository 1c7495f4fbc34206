use Rattle.std.proofs.Common.{◌≡◌, ◌∙◌, IfErr}
use Rattle.model.specs.declared.errno.Errno.TheVariants.{EFBIG}
use Rattle.records.proofs.Failures.{read_told, refused_by}
use Rattle.records.proofs.ContentLaws.{rewriting_touches}
use Rattle.records.proofs.Recording.{hinders, marked, unmarked}
use Rattle.records.proofs.contents.prepare_bytes.Goals as goal

pub returns-in_err-plan-clause-decides : goal.returns-in_err-plan-clause-decides
returns-in_err-plan-clause-decides g c = hinders _ c.from_residual.result c.from_residual.ensures.1 c.in_err-plan.ensures.decides

pub returns-in_err-plan-clause-own : goal.returns-in_err-plan-clause-own
returns-in_err-plan-clause-own g c = refused_by (λ r. IfErr r (λ e. e ≡ EFBIG)) _ _ c.from_residual.result c.from_residual.ensures.1 (λ errno own. own) c.in_err-plan.ensures.own

pub returns-in_err-prepared-clause-decides : goal.returns-in_err-prepared-clause-decides
returns-in_err-prepared-clause-decides g c = unmarked c.from_residual-in_err-prepared.result c.from_residual-in_err-prepared.ensures.1 c.in_ok-plan.ensures.decides c.in_err-prepared.ensures

pub returns-in_err-prepared-clause-own : goal.returns-in_err-prepared-clause-own
returns-in_err-prepared-clause-own g c = read_told (λ r. IfErr r (λ e. e ≡ EFBIG)) _ c.from_residual-in_err-prepared.result c.from_residual-in_err-prepared.ensures.1

pub returns-clause-decides : goal.returns-clause-decides
returns-clause-decides g c =
    marked c.in_ok-plan.ensures.decides c.in_ok-prepared.ensures c.of_object-marks.ensures.time c.requires (λ detail disk settled v stands. c.of_object-marks.ensures.touches ∙ rewriting_touches c.args.number c.args.rewrite.now v)
