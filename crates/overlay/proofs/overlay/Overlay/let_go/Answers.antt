use Rattle.std.proofs.Common.{ap, refl, subst, sym}
use Rattle.buffers.specs.Disks.{ReadsOn}
use Rattle.buffers.specs.Readings.{reads_none}
use Rattle.overlay.proofs.OverlayLaws.{over_still}
use Rattle.overlay.proofs.overlay.Overlay.let_go.Goals as goal

pub returns-clause-reads : goal.returns-clause-reads
returns-clause-reads g c =
    let m = g.S.Station.meaning c.args.self.now.buffers.station in
    record { below = subst (λ s. ReadsOn m (g.S.Station.meaning s)) (sym c.let_go.ensures.station) (reads_none m); pending = refl }

pub returns-clause-same : goal.returns-clause-same
returns-clause-same g c = λ disk shows.
    over_still (g.S.Station.meaning c.args.self.now.buffers.station) (g.S.Station.meaning c.let_go.new.self.station) c.args.self.now.buffers.kept c.let_go.new.self.kept c.args.self.now.pending disk
    (ap (λ s. (g.S.Station.meaning s).seen.disk) c.let_go.ensures.station) c.let_go.ensures.shows shows
