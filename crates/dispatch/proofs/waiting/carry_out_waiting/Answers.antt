use Rattle.std.proofs.Common.{◌≡◌, ◌∙◌, ℕ, Option, ap, refl, subst, sym}
use Rattle.layout.specs.StateLimits.{limits_of}
use Rattle.layout.specs.Record.{change_of}
use Rattle.model.specs.Records.{applied, work_of}
use Rattle.model.specs.Room.{logs}
use Rattle.model.specs.Trees.{Description}
use Rattle.model.specs.Volumes.{IsMounted, Volume, swept}
use Rattle.descriptors.specs.Fits.{FitsVolume}
use Rattle.descriptors.specs.Tables.{table_of}
use Rattle.system.specs.Ahead.{HasStateAhead}
use Rattle.system.specs.Systems.{Parts, state_with}
use Rattle.system.specs.declared.error.WaitError.TheVariants.{Damaged, NotRead}
use Rattle.system.specs.declared.system.System.{System}
use Rattle.dispatch.specs.OpenFiles.{moved_table}
use Rattle.dispatch.proofs.AnsweringLaws.{done_ahead}
use Rattle.dispatch.proofs.FileChangeLaws.{unchanged_leads}
use Rattle.dispatch.proofs.LookedLaws.{ahead_shows}
use Rattle.dispatch.proofs.OpenFileLaws.{does_change, may_advance, told_logged}
use Rattle.dispatch.proofs.ServingLaws.{reads_nothing}
use Rattle.dispatch.proofs.ShowingLaws.{views_same}
use Rattle.dispatch.proofs.TableLaws.{room_stays}
use Rattle.dispatch.proofs.WaitingLaws.{moved_behind}
use Rattle.dispatch.proofs.waiting.carry_out_waiting.Goals as goal

pub returns-in-None : goal.returns-in-None
returns-in-None g c = record {
  blocks = refl;
  parts = refl;
  reply = refl;
  kept = tt;
  half = λ fits. fits;
  at = λ call s kept ahead prepared.
      let f = c.args.system.now in
      let p = c.args.prepared in
      let put = c.put_into-in-None.ensures in
      done_ahead {G = g.S.Station} f _ call refl (views_same {G = g.S.Station} f refl) p.reply reads_nothing s ahead
      (unchanged_leads {G = g.S.Station} f _ (ahead_shows ahead) call p c.in-None.is prepared refl refl (record { table = put.table; fits = put.fits; mounted = put.mounted }));
  own = (λ is. cc, λ is. cc);
}

pub returns-in-Ok : goal.returns-in-Ok
returns-in-Ok g c = record {
  blocks = c.wait.ensures.memory.0;
  parts = ap (λ (k : Parts). record k { files = c.put_into.new.files }) c.wait.ensures.memory.1;
  reply = refl;
  kept = tt;
  half = c.wait.ensures.half;
  at = λ call s kept ahead prepared.
      let f = c.args.system.now in
      let p = c.args.prepared in
      let change = change_of c.record.result in
      let table = s.tree.descriptors in
      let limits = limits_of f.root.geometry in
      let shown = ahead_shows ahead in
      let v = shown.running in
      let after = swept table (applied change v) in
      let now_table = moved_table p.table table in
      let made = told_logged shown call p c.in-Some.field-0 change c.in-Some.is c.record.ensures.says prepared in
      let does = does_change shown call p c.in-Some.field-0 change c.in-Some.is c.record.ensures.says prepared in
      let advances = may_advance shown call p c.in-Some.field-0 change c.in-Some.is c.record.ensures.says prepared c.record.ensures.is in
      let told = c.in-Ok.ensures.told table s kept ahead does.edit.knows in
      let behind = told.done advances does in
      let put = c.put_into.ensures in
      let mid = c.wait.new.self in
      let opened : now_table ≡ table_of c.put_into.new.files = ap (moved_table p.table) behind.0.shown.opened ∙ sym put.table in
      let fits : FitsVolume mid.files after = subst (λ (w : Volume). FitsVolume mid.files w) behind.1 behind.0.shown.fits in
      let mounted : IsMounted after (table_of mid.files) = subst (λ (t : ℕ → Option Description). IsMounted after t) behind.0.shown.opened made.mounted in
      record {
        next = state_with limits f.session after now_table shown.snapshots;
        need = logs (work_of v change);
        step = λ room stored. made.step room;
        room = told.room;
        ahead = moved_behind limits f.session shown.snapshots behind.0 behind.1 c.put_into.new.files now_table opened (put.fits after fits made.fits)
            (subst (λ (t : ℕ → Option Description). IsMounted after t) (sym opened) (put.mounted after fits mounted made.fits));
      };
  own = (λ is. cc, λ is. cc);
}

pub returns-in-Err : goal.returns-in-Err
returns-in-Err g c =
    let refused = c.in-Err.ensures.refused in
    record {
      blocks = c.wait.ensures.memory.0;
      parts = c.wait.ensures.memory.1;
      reply = tt;
      kept = refused.1;
      half = c.wait.ensures.half;
      at = λ call s kept ahead prepared. subst (λ (f : System g.row.S.Denot g.S.Station). HasStateAhead {G = g.S.Station} f c.args.waiting.now s.tree.descriptors s kept) (sym refused.0) ahead;
      own = (λ is. c.in-Err.ensures.own.0 (let e : c.in-Err.error ≡ NotRead = cc in e), λ is. c.in-Err.ensures.own.1 (let e : c.in-Err.error ≡ Damaged = cc in e));
    }

pub put_into-requires-clause-room : goal.put_into-requires-clause-room
put_into-requires-clause-room g c = room_stays c.args.system.now.files c.wait.new.self.files c.args.prepared.table c.wait.ensures.stays.1 c.requires.room
