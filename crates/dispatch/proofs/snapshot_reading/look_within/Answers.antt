use Rattle.std.proofs.Common.{List, ℕ, refl, subst}
use Rattle.std.proofs.lemmas.Result.{IfOk-weaker}
use Rattle.model.specs.Room.{nothing}
use Rattle.model.specs.Steps.{views}
use Rattle.model.specs.declared.command.Command.TheVariants as command
use Rattle.records.specs.Failures.{read_outcome}
use Rattle.dispatch.specs.Answering.{answered_reply}
use Rattle.dispatch.proofs.LookedLaws.{disk_under}
use Rattle.dispatch.proofs.ServingLaws.{looked_up}
use Rattle.dispatch.proofs.ShowingLaws.{stands_same, still_shown}
use Rattle.dispatch.proofs.ViewLaws.{limits_shown, snapshots_shown}
use Rattle.dispatch.proofs.snapshot_reading.look_within.Goals as goal

pub returns : goal.returns
returns g c =
    let f = c.args.system.now in
    let d = disk_under {G = g.S.Station} f in
    let seen = c.read_within-outcome.ensures in
    let call = c.args.call.now in
    looked_up {G = g.S.Station} f _ (command.Within c.args.name.now call) refl seen.shows c.read_within-outcome.result _ c.answer.ensures (λ s shown x. x, λ x. x)
    seen.reads seen.own seen.kind seen.no_fault
    (λ s shown. still_shown {G = g.S.Station} f _ shown (stands_same {G = g.S.Station} f shown refl) refl refl (λ v fits. fits))
    (λ s shown. IfOk-weaker (read_outcome c.read_within-outcome.result) _ _ (λ r views_so room stored. subst (λ (name : List ℕ). views s name call (answered_reply r) s nothing) c.as_bytes.ensures views_so)
    (seen.views d shown.shows shown.first shown.snapshots shown.under.holds shown.view s (limits_shown shown) (snapshots_shown shown)))
    (λ s shown. seen.damaged d shown.shows shown.first shown.snapshots shown.under.holds shown.view)
