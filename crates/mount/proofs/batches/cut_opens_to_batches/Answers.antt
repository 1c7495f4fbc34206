use Rattle.system.specs.Images.{OpensTo}
use Rattle.mount.specs.Applying.{Between}
use Rattle.mount.specs.Batching.{BetweenWaiting, Settles}
use Rattle.mount.specs.Systems.{file_system_meaning, mounted, moment_of, shown_state}
use Rattle.mount.proofs.BatchLemmas.{batches_prefix}
use Rattle.mount.proofs.BatchSpans.{batches_alone}
use Rattle.mount.proofs.WaitingLemmas.{batches_open, durable_stays, steady}
use Rattle.mount.proofs.batches.cut_opens_to_batches.Goals as goal

pub returns-clause-batches : goal.returns-clause-batches
returns-clause-batches g c first s w batches steps other is run reads = batches_open {G = g.S.Station} first s w batches steps (g.T.Station.meaning other) is run reads

pub returns-clause-prefix : goal.returns-clause-prefix
returns-clause-prefix g c first s t batches is = batches_prefix shown_state Settles Between BetweenWaiting steady (mounted {G = g.S.Station} first s) batches t is

pub returns-clause-stays : goal.returns-clause-stays
returns-clause-stays g c first s w durable rest steps run =
    let there = durable_stays {G = g.S.Station} first s w durable rest steps run in
    (there.0, there.1, λ other is reads. there.2 (g.T.Station.meaning other) is reads)

pub returns-clause-alone : goal.returns-clause-alone
returns-clause-alone g c f last steps a b =
    let m = file_system_meaning last in
    batches_alone shown_state Settles Between BetweenWaiting m.left_at (λ i t. OpensTo m t i) moment_of f steps last a b
