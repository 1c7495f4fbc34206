use Rattle.std.proofs.Common.{◌∙◌, ◌∷◌, ◌++◌, [], Err, ap, refl}
use Rattle.layout.specs.StateLimits.{limits_of}
use Rattle.layout.specs.Record.{change_of}
use Rattle.model.specs.Records.{applied}
use Rattle.model.specs.Volumes.{swept}
use Rattle.model.specs.declared.errno.Errno.TheVariants.{EIO, FAILED}
use Rattle.overlay.specs.declared.overlay.Overlay.{Overlay}
use Rattle.system.specs.Systems.{system_parts}
use Rattle.dispatch.proofs.AnsweringLaws.{done_handles, done_serving}
use Rattle.dispatch.proofs.FileChangeLaws.{Moves, leads_on, logged_moves, unchanged_leads}
use Rattle.dispatch.proofs.HandlingLaws.{logged, logged_at, not_logged, not_logged_at, record_fits}
use Rattle.dispatch.proofs.LookedLaws.{served_shows}
use Rattle.dispatch.proofs.OpenFileLaws.{does_change, may_advance, told_logged}
use Rattle.dispatch.proofs.ServingLaws.{reads_nothing}
use Rattle.dispatch.proofs.ShowingLaws.{views_same}
use Rattle.dispatch.proofs.TableLaws.{room_stays}
use Rattle.dispatch.proofs.changing.carry_out.Goals as goal

pub returns-in-None-clause-frame : goal.returns-in-None-clause-frame
returns-in-None-clause-frame g c = λ call kind accepted.
    done_handles {G = g.S.Station} c.args.system.now _ call refl c.args.prepared.reply reads_nothing kind (accepted EIO, accepted FAILED)

pub returns-in-None-clause-told : goal.returns-in-None-clause-told
returns-in-None-clause-told g c = λ call s served prepared.
    let f = c.args.system.now in
    let p = c.args.prepared in
    let put = c.put_into-in-None.ensures in
    done_serving {G = g.S.Station} f _ call refl (views_same {G = g.S.Station} f refl) p.reply reads_nothing s served (c.served_states_open.ensures s.tree.descriptors s served)
    (unchanged_leads {G = g.S.Station} f _ (served_shows served) call p c.in-None.is prepared refl refl (record { table = put.table; fits = put.fits; mounted = put.mounted }))

pub returns-in-Ok-clause-frame : goal.returns-in-Ok-clause-frame
returns-in-Ok-clause-frame g c = λ call kind accepted.
    logged {G = g.S.Station} c.args.system.now _ call c.log.ensures.stays.2 c.log.ensures.stays.3 c.in-Ok.field-0 c.args.prepared.reply kind accepted c.in-Ok.ensures.writes c.in-Ok.ensures.stays.4

pub returns-in-Ok-clause-told : goal.returns-in-Ok-clause-told
returns-in-Ok-clause-told g c = λ call s served prepared.
    let f = c.args.system.now in
    let p = c.args.prepared in
    let change = change_of c.record.result in
    let table = s.tree.descriptors in
    let after = swept table (applied change served.running) in
    let shown = served_shows served in
    let made = told_logged shown call p c.in-Some.field-0 change c.in-Some.is c.record.ensures.says prepared in
    let does = does_change shown call p c.in-Some.field-0 change c.in-Some.is c.record.ensures.says prepared in
    let advances = may_advance shown call p c.in-Some.field-0 change c.in-Some.is c.record.ensures.says prepared c.record.ensures.is in
    let moves : Moves c.log.new.self.files c.put_into.new.files p.table = record {
      table = c.put_into.ensures.table;
      fits = c.put_into.ensures.fits;
      mounted = c.put_into.ensures.mounted;
    } in
    let behind = logged_moves {G = g.S.Station} c.log.new.self c.put_into.new.files p.table table (limits_of f.root.geometry) f.session after served.snapshots (served.lasts.replayed.changes ++ change ∷ [])
    ((c.in-Ok.ensures.told table s served does.edit.knows).done advances does) made.mounted made.fits moves in
    logged_at {G = g.S.Station} f _ s served call p.reply
    (leads_on {G = g.S.Station} f _ s served call p.reply p.table change made ((c.log.ensures.told table s served does.edit.knows).any_moment advances)) change refl (c.in-Ok.ensures.told table s served does.edit.knows).room (behind.serves, behind.records)

pub returns-in-Err-clause-frame : goal.returns-in-Err-clause-frame
returns-in-Err-clause-frame g c = λ call kind accepted.
    let failed = c.in-Err.ensures in
    not_logged {G = g.S.Station} c.args.system.now c.log.new.self call c.log.ensures.stays.2 c.log.ensures.stays.3 c.in-Err.error failed.own (λ is. failed.stops (ap (λ e. Err e) is)) failed.writes
    (λ other.
    let same = failed.refused.1 other in
    (ap (λ (b : Overlay g.row.S.Denot g.S.Station). g.S.Station.meaning b.buffers.station) same.0, same.1))

pub returns-in-Err-clause-told : goal.returns-in-Err-clause-told
returns-in-Err-clause-told g c = λ call s served prepared.
    let f = c.args.system.now in
    let p = c.args.prepared in
    let change = change_of c.record.result in
    let table = s.tree.descriptors in
    let failed = c.in-Err.ensures in
    let shown = served_shows served in
    let made = told_logged shown call p c.in-Some.field-0 change c.in-Some.is c.record.ensures.says prepared in
    let does = does_change shown call p c.in-Some.field-0 change c.in-Some.is c.record.ensures.says prepared in
    let advances = may_advance shown call p c.in-Some.field-0 change c.in-Some.is c.record.ensures.says prepared c.record.ensures.is in
    not_logged_at {G = g.S.Station} f c.log.new.self s served call p.reply
    (leads_on {G = g.S.Station} f c.log.new.self s served call p.reply p.table change made ((c.log.ensures.told table s served does.edit.knows).any_moment advances)) c.in-Err.error failed.own.1
    (λ other.
    let same = failed.refused.1 other in (
      ap (λ (b : Overlay g.row.S.Denot g.S.Station). g.S.Station.meaning b.buffers.station) same.0,
      failed.refused.0 ∙ (λ i. record (system_parts {G = g.S.Station} f) { log = same.1 i }),
    ))
    (λ is empty. record_fits {G = g.S.Station} f change empty c.record.ensures.short (failed.full (ap (λ e. Err e) is)))
    (λ is. (failed.told table s served does.edit.knows).short (ap (λ e. Err e) is))

pub put_into-requires-clause-room : goal.put_into-requires-clause-room
put_into-requires-clause-room g c = room_stays c.args.system.now.files c.log.new.self.files c.args.prepared.table c.log.ensures.keeps c.requires.room
