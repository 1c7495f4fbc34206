use Rattle.std.proofs.Common.{ap, refl}
use Rattle.system.proofs.AheadLaws.{read_ahead}
use Rattle.system.proofs.CheckpointLaws.{glanced}
use Rattle.system.proofs.ViewLaws.{stays_read}
use Rattle.system.proofs.system.System.let_go.Goals as goal

pub returns-clause-glances : goal.returns-clause-glances
returns-clause-glances g c =
    let fs = c.args.self.now in
    let goes = c.let_go.ensures in
    glanced fs _ goes.reads.below refl (λ s served. (stays_read {G = g.S.Station} fs c.let_go.new.self s goes.reads goes.same served, refl)) _ (ap (λ s. (g.S.Station.meaning s).failed_reads) goes.station)

pub returns-clause-ahead : goal.returns-clause-ahead
returns-clause-ahead g c = λ waits table s kept ahead.
    let fs = c.args.self.now in
    let new = c.let_go.new.self in
    read_ahead ahead (g.S.Station.meaning new.buffers.station) new.buffers.kept new.pending fs.inodes c.let_go.ensures.reads c.let_go.ensures.same (λ v over. over) refl (λ n k least. least)
