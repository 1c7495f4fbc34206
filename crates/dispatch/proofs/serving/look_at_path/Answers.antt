use Rattle.std.proofs.Common.{refl}
use Rattle.std.proofs.lemmas.Result.{IfOk-weaker}
use Rattle.model.specs.declared.command.Command.TheVariants as command
use Rattle.records.specs.Failures.{read_outcome}
use Rattle.dispatch.proofs.LookedLaws.{never_damaged, on_trees}
use Rattle.dispatch.proofs.ServingLaws.{looked_up, told_of}
use Rattle.dispatch.proofs.ShowingLaws.{stands_looked, still_shown, views_same}
use Rattle.dispatch.proofs.serving.look_at_path.Goals as goal

pub returns : goal.returns
returns g c =
    let f = c.args.system.now in
    let seen = c.read.ensures.tells in
    looked_up {G = g.S.Station} f _ (command.Path c.args.call.now) refl (views_same {G = g.S.Station} f refl) c.read.result _ c.answer.ensures (λ s shown x. x, λ x. x)
    seen.looks.reads seen.own c.read.ensures.kind c.read.ensures.no_fault
    (λ s shown. still_shown {G = g.S.Station} f _ shown (stands_looked {G = g.S.Station} f shown seen.looks) refl refl (λ v fits. fits))
    (λ s shown. IfOk-weaker (read_outcome c.read.result) _ _ (λ r answers room stored. told_of shown c.args.call.now _ f.sizes c.requires answers room) (on_trees {G = g.S.Station} f shown seen.answers))
    (λ s shown. never_damaged {G = g.S.Station} f shown seen.damaged)
