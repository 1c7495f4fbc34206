use Rattle.std.proofs.Common.{◌≡◌, Option, None, Ok, Err, refl, sym, subst}
use Rattle.std.specs.Prelude.{IfSome}
use Rattle.station.proofs.Moments.{started}
use Rattle.overlay.specs.declared.pending.PendingPoint.{PendingPoint}
use Rattle.conspoint.specs.Cuts.{IsFault}
use Rattle.system.specs.Errors.{IsNotWritten}
use Rattle.system.specs.Images.{OpensTo}
use Rattle.system.specs.Slicing.{CarriesOut}
use Rattle.system.specs.Systems.{system_parts}
use Rattle.system.proofs.CountingLaws.{none_logged}
use Rattle.system.specs.declared.error.PointError.TheVariants.{NotWritten}
use Rattle.system.proofs.GoingOnLaws.{none_pending, wrote_nothing}
use Rattle.system.proofs.SteppingLaws.{all_three, done_too, finishes, wrote_all, wrote_not}
use Rattle.system.proofs.SystemLaws.{all_open}
use Rattle.system.proofs.system.System.finish.Goals as goal

pub returns-then-not-is_under_way : goal.returns-then-not-is_under_way
returns-then-not-is_under_way g c =
    let f = c.args.self.now in
    let m = g.S.Station.meaning f.blocks.buffers.station in
    let none : f.blocks.pending ≡ None = none_pending f.blocks.pending c.is_under_way.result c.is_under_way.ensures c.if-not-is_under_way.true in
    record {
      writes = wrote_nothing IsNotWritten m tt;
      why = tt;
      unlogged = none_logged m;
      idle = λ _. (refl, refl);
      parts = λ i. record (system_parts {G = g.S.Station} f) { pending = none i };
      pledges = λ some. absurd (some none);
      shows = λ disk shows. shows;
      carried = subst (λ (l : Option PendingPoint). IfSome l (CarriesOut {G = g.S.Station} f f (Ok tt))) (sym none) tt;
      goes_on = λ table s serves. record {
        leaves = started m (OpensTo m s) (all_open serves f.sectors f.half c.cuts_open.ensures);
        stays = serves;
        by = record { serves = serves; volume = refl };
      };
    }

pub returns-in-Ok : goal.returns-in-Ok
returns-in-Ok g c =
    let f = c.args.self.now in
    let m = g.S.Station.meaning f.blocks.buffers.station in
    let now = c.finish-written.new.self in
    let n = g.S.Station.meaning now.buffers.station in
    let r = c.finish-written.result in
    let did = c.finish-written.ensures in
    let too = done_too r c.in-Ok.field-0 c.in-Ok.is in
    finishes {G = g.S.Station} c.cuts_open.ensures c.new_roots_hold.ensures c.points_go_on.ensures f _ (c.is_under_way.ensures.0 c.if-not-is_under_way.false)
    (g.met.S.Station.seen_may_be_left f.blocks.buffers.station) (g.met.S.Station.seen_may_be_left now.buffers.station) (g.met.S.Station.sized now.buffers.station)
    (Ok tt) (wrote_all IsFault m n r c.in-Ok.field-0 c.in-Ok.is did.writes) tt did.none
    (λ i. record (system_parts {G = g.S.Station} f) { kept = now.buffers.kept; pending = did.none i; inodes = c.let_past_go.ensures i; map = c.switch_to_new_root.new.self; pledged = f.pledged_then }) refl
    (λ disk shows. too _ (did.shows disk shows)) c.switch_to_new_root.ensures (all_three r (Ok tt) _ _ _ f.blocks.pending too did.any_moment did.settled did.just)

pub returns-in-Err : goal.returns-in-Err
returns-in-Err g c =
    let f = c.args.self.now in
    let m = g.S.Station.meaning f.blocks.buffers.station in
    let now = c.finish-written.new.self in
    let n = g.S.Station.meaning now.buffers.station in
    let r = c.finish-written.result in
    let did = c.finish-written.ensures in
    finishes {G = g.S.Station} c.cuts_open.ensures c.new_roots_hold.ensures c.points_go_on.ensures f _ (c.is_under_way.ensures.0 c.if-not-is_under_way.false)
    (g.met.S.Station.seen_may_be_left f.blocks.buffers.station) (g.met.S.Station.seen_may_be_left now.buffers.station) (g.met.S.Station.sized now.buffers.station)
    (Err NotWritten) (wrote_not IsFault m n r c.in-Err.field-0 c.in-Err.is did.writes did.device) refl did.none
    (λ i. record (system_parts {G = g.S.Station} f) { kept = now.buffers.kept; pending = did.none i; inodes = c.let_past_go.ensures i; map = c.switch_to_new_root.new.self; pledged = f.pledged_then }) refl
    (λ disk shows. tt) c.switch_to_new_root.ensures (all_three r (Err NotWritten) _ _ _ f.blocks.pending (λ A h. tt) did.any_moment did.settled did.just)
