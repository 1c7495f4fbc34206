use Rattle.std.proofs.Common.{◌<◌, arith}
use Rattle.memory_station.proofs.BadLemmas.{All-is_bad}
use Rattle.memory_station.proofs.sim.Sim.bad_sectors.Goals as goal

pub returns-clause-within : goal.returns-clause-within
returns-clause-within c =
    let media = c.args.self.now.media in
    rw c.deref.ensures.value (All-is_bad (λ n. n < media.sectors) media.disk.bad.items (λ n is. omega (arith, media.disk.within n is, media.disk_size)))
