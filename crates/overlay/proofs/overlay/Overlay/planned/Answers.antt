use Rattle.std.proofs.Common.{Option, subst, ℕ}
use Rattle.std.proofs.lemmas.Option.{IfSome_then}
use Rattle.conspoint.specs.Finished.{IsAbsent}
use Rattle.overlay.specs.Indexes.{IsAt}
use Rattle.overlay.specs.Overlays.{ShowsOver}
use Rattle.overlay.specs.declared.pending.PendingPoint.{PendingPoint}
use Rattle.overlay.proofs.OverlayLaws.{elsewhere, here, none_then}
use Rattle.overlay.proofs.overlay.Overlay.planned.Goals as goal

pub returns-in-Some-clause-bytes : goal.returns-in-Some-clause-bytes
returns-in-Some-clause-bytes g c = λ disk shows.
    let m = g.S.Station.meaning c.args.self.now.buffers.station in
    let kept = c.args.self.now.buffers.kept in
    let pending = c.in-Some.pending in
    IfSome_then c.find.result c.find.ensures.some (λ b at.
    here m kept pending c.args.place b.now disk (c.finished_disks_are_one.ensures.is pending.plan m.seen c.find.ensures.planned).blocks
    (subst (λ (n : ℕ). IsAt pending.plan.blocks n b.now) c.get.ensures at)
    (subst (λ (l : Option PendingPoint). ShowsOver m kept l disk) c.in-Some.is shows))

pub returns-in-Some-clause-below : goal.returns-in-Some-clause-below
returns-in-Some-clause-below g c = λ disk shows.
    let m = g.S.Station.meaning c.args.self.now.buffers.station in
    let kept = c.args.self.now.buffers.kept in
    let pending = c.in-Some.pending in
    none_then c.find.result c.find.ensures.none (λ absent.
    elsewhere c.finished_disks_are_one.ensures.others m kept pending c.args.place disk c.find.ensures.planned c.requires
    (subst (λ (n : ℕ). IsAbsent pending.plan.blocks n) c.get.ensures absent)
    (subst (λ (l : Option PendingPoint). ShowsOver m kept l disk) c.in-Some.is shows))
