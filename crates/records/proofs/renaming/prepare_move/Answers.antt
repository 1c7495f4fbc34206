use Rattle.std.proofs.Common.{◌∙◌, ℕ, Option, Some, ap, sym}
use Rattle.model.specs.Touches.{touches_move}
use Rattle.model.specs.Volumes.{entries}
use Rattle.records.proofs.Recording.{hinders, marked, unmarked}
use Rattle.records.proofs.renaming.prepare_move.Goals as goal

pub returns-in_err-plan : goal.returns-in_err-plan
returns-in_err-plan g c = hinders _ c.from_residual.result c.from_residual.ensures.1 c.in_err-plan.ensures

pub returns-in_err-prepared : goal.returns-in_err-prepared
returns-in_err-prepared g c = unmarked c.from_residual-in_err-prepared.result c.from_residual-in_err-prepared.ensures.1 c.in_ok-plan.ensures c.in_err-prepared.ensures

pub returns : goal.returns
returns g c = marked c.in_ok-plan.ensures c.in_ok-prepared.ensures c.of_move-marks.ensures.time c.requires.time (λ detail disk settled v over.
    c.of_move-marks.ensures.touches
    ∙ ap (λ (o : Option ℕ). touches_move o c.args.target (Some c.args.parent) (Some c.args.new_parent)) (sym over.1.there)
    ∙ ap (λ (o : Option ℕ). touches_move (entries v c.args.parent c.args.name.now) o (Some c.args.parent) (Some c.args.new_parent)) (sym over.1.over))
