use Rattle.std.proofs.Common.{ap, refl, subst}
use Rattle.std.proofs.lemmas.Result.{IfOk-weaker, on_err_weaker}
use Rattle.layout.specs.Limits.{Sizes}
use Rattle.layout.specs.StateLimits.{limits_of}
use Rattle.model.specs.Room.{nothing}
use Rattle.dispatch.specs.Answering.{answered_reply}
use Rattle.dispatch.specs.OpenFiles.{WouldLead}
use Rattle.descriptors.specs.Tables.{table_of}
use Rattle.records.specs.Failures.{read_outcome}
use Rattle.dispatch.proofs.LookedLaws.{its_table, never_damaged, on_open}
use Rattle.dispatch.proofs.OpenFileLaws.{looking_not_sure, table_leads}
use Rattle.dispatch.proofs.ServingLaws.{came_to}
use Rattle.dispatch.proofs.ShowingLaws.{stands_looked, still_shown, views_same}
use Rattle.dispatch.proofs.open_files.look_at_open_file.Goals as goal

pub returns : goal.returns
returns g c =
    let f = c.args.system.now in
    let call = c.args.call.now in
    let result = c.read_open_file-outcome.result in
    let read = c.read_open_file-outcome.ensures in
    let seen = read.tells in
    let looks = seen.looks in
    came_to {G = g.S.Station} f _ call refl (views_same {G = g.S.Station} f refl) result _ c.answer.ensures (looking_not_sure {G = g.S.Station} f call c.requires) looks.reads seen.own read.kind read.no_fault
    (on_err_weaker result (λ same s shown. still_shown {G = g.S.Station} f _ shown (stands_looked {G = g.S.Station} f shown looks) refl (ap table_of same) seen.fits) seen.refused)
    (λ s shown.
    let v = shown.running in
    IfOk-weaker (read_outcome result) _ _ (λ r answers.
    table_leads {G = g.S.Station} f _ shown call _ refl (stands_looked {G = g.S.Station} f shown looks) (table_of c.read_open_file-outcome.new.files) refl (seen.fits v shown.fits)
    (seen.mounted v (its_table {G = g.S.Station} f shown))
    (subst (λ (z : Sizes). WouldLead (limits_of z) f.session v (table_of f.files) call (answered_reply r) v (table_of c.read_open_file-outcome.new.files) nothing) f.sizes (answers f.session))) (on_open {G = g.S.Station} f shown seen.answers))
    (λ s shown. never_damaged {G = g.S.Station} f shown seen.damaged)
