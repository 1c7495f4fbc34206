use Rattle.std.proofs.Common.{◌≡◌, ◌∙◌, OnOk, Option, Some, subst, sym}
use Rattle.overlay.specs.Overlays.{FitsOver, ShowsOver}
use Rattle.overlay.specs.declared.pending.PendingPoint.{PendingPoint}
use Rattle.overlay.proofs.OverlayLaws.{ended}
use Rattle.overlay.proofs.overlay.Overlay.finish.Goals as goal

pub returns-in-Some-clause-shows : goal.returns-in-Some-clause-shows
returns-in-Some-clause-shows g c = λ disk shows.
    let m = g.S.Station.meaning c.args.self.now.buffers.station in
    let n = g.S.Station.meaning c.write_rest.new.buffers.station in
    let kept = c.args.self.now.buffers.kept in
    let pending = c.in-Some.pending in
    let did = c.write_rest.ensures in
    let law = c.finished_disks_are_one.ensures in
    let is : c.args.self.now.pending ≡ Some pending = sym c.take.ensures.value ∙ c.in-Some.is in
    let fits = subst (FitsOver m.sectors) is c.args.self.now.fits in
    subst (λ (l : Option PendingPoint). OnOk c.write_rest.result (ShowsOver n c.write_rest.new.buffers.kept l disk)) (sym c.take.ensures.after)
    (ended law.others c.written_disks_have_the_blocks.ensures.others m n kept c.write_rest.new.buffers.kept pending disk did.planned fits did.writes.same (subst (λ (l : Option PendingPoint). ShowsOver m kept l disk) is shows)
    c.write_rest.result (λ new. law.one m.sectors pending.plan m.seen new did.planned fits) (g.met.S.Station.seen_may_be_left c.write_rest.new.buffers.station) (g.met.S.Station.sized c.write_rest.new.buffers.station)
    did.settled did.shows)
