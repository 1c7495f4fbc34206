use Rattle.std.proofs.Common.{Ok, Option, Result, subst}
use Rattle.buffers.specs.declared.error.BlockError.{BlockError}
use Rattle.overlay.specs.Overlays.{FitsOver, HoldsHere, ShowsOver}
use Rattle.overlay.specs.declared.pending.PendingPoint.{PendingPoint}
use Rattle.overlay.proofs.OverlayLaws.{sliced}
use Rattle.overlay.proofs.overlay.Overlay.write_some.Goals as goal

pub returns-in-Ok-clause-shows : goal.returns-in-Ok-clause-shows
returns-in-Ok-clause-shows g c = λ disk shows.
    let m = g.S.Station.meaning c.args.self.now.buffers.station in
    let kept = c.args.self.now.buffers.kept in
    let pending = c.in-Some.pending in
    let did = c.in-Ok.ensures in
    let done : Result (Unit {0}) BlockError = Ok c.in-Ok.field-0 in
    sliced c.finished_disks_are_one.ensures.others c.written_disks_have_the_blocks.ensures.others m (g.S.Station.meaning c.write_some.new.buffers.station) kept c.write_some.new.buffers.kept pending disk
    did.planned (subst (FitsOver m.sectors) c.in-Some.is c.args.self.now.fits) did.writes.same (subst (λ (l : Option PendingPoint). ShowsOver m kept l disk) c.in-Some.is shows)
    _ done did.plan (λ old now. c.finished_disks_are_one.ensures.stays pending.plan old now did.planned) did.goes did.written did.shows

pub invariant_of-self-clause-written : goal.invariant_of-self-clause-written
invariant_of-self-clause-written g c =
    c.in-Ok.ensures.written (subst (HoldsHere (g.S.Station.meaning c.args.self.now.buffers.station)) c.in-Some.is c.args.self.now.written)
