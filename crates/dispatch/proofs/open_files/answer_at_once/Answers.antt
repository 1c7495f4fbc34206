use Rattle.std.proofs.Common.{inl, refl}
use Rattle.layout.specs.StateLimits.{limits_of}
use Rattle.descriptors.specs.Tables.{table_of}
use Rattle.dispatch.proofs.LookedLaws.{its_table}
use Rattle.dispatch.proofs.OpenFileLaws.{table_leads, table_sure}
use Rattle.dispatch.proofs.ServingLaws.{answered, reads_nothing}
use Rattle.dispatch.proofs.ShowingLaws.{stands_same, views_same}
use Rattle.dispatch.proofs.open_files.answer_at_once.Goals as goal

pub returns : goal.returns
returns g c =
    let f = c.args.system.now in
    let call = c.args.call.now in
    let told = c.answer_from_table.ensures in
    answered {G = g.S.Station} f _ call refl (views_same {G = g.S.Station} f refl) c.answer_from_table.result
    (λ s shown. inl (record { sure = table_sure s call c.requires; still = refl }), λ is. (refl, told.no_want)) reads_nothing told.kind told.no_fault
    (λ s shown.
    let v = shown.running in
    table_leads {G = g.S.Station} f _ shown call c.answer_from_table.result refl (stands_same {G = g.S.Station} f shown refl) (table_of c.answer_from_table.new.files) refl
    (told.fits v shown.fits) (told.mounted v (its_table {G = g.S.Station} f shown)) (told.answers (limits_of f.root.geometry) f.session v shown.fits))
