use Rattle.std.proofs.Common.{ap, subst, sym}
use Rattle.std.proofs.lemmas.Result.{on_ok_weaker}
use Rattle.station.specs.Images.{Images}
use Rattle.buffers.specs.Disks.{IsWhole}
use Rattle.buffers.specs.Readings.{reads_none}
use Rattle.overlay.proofs.OverlayLaws.{over_still}
use Rattle.overlay.proofs.overlay.OverlayBlocks.make_resident.Goals as goal

pub returns-clause-whole : goal.returns-clause-whole
returns-clause-whole g c = λ disk shows.
    on_ok_weaker c.make_resident.result (subst IsWhole (sym (c.in_default.ensures.below disk shows))) (c.make_resident.ensures.whole _ shows.below)

pub returns-clause-same : goal.returns-clause-same
returns-clause-same g c = λ disk shows.
    let m = g.S.Station.meaning c.args.self.now.buffers.station in
    let read = c.make_resident.ensures.reads c.args.self.now.buffers (reads_none m) in
    over_still m (g.S.Station.meaning c.make_resident.new.self.station) c.args.self.now.buffers.kept c.make_resident.new.self.kept c.args.self.now.pending disk
    (ap (λ (i : Images). i.disk) (read.goes shows.below.honest).seen) c.make_resident.ensures.same shows

pub returns-clause-reads : goal.returns-clause-reads
returns-clause-reads g c = λ start reads. record { below = c.make_resident.ensures.reads start.buffers reads.below; pending = reads.pending }
