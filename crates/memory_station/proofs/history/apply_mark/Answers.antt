use Rattle.std.proofs.Common.{◌∙◌}
use Rattle.memory_station.specs.Sectors.{sectors_at}
use Rattle.memory_station.proofs.KeptLemmas.{disk_with-one}
use Rattle.memory_station.proofs.history.apply_mark.Goals as goal

pub returns-in-Kept-clause-sectors : goal.returns-in-Kept-clause-sectors
returns-in-Kept-clause-sectors c = λ n. rw c.in-Kept.is (c.write.ensures.sectors n ∙ disk_with-one c.args.write.now (sectors_at c.args.disk.now) n c.requires.range.1)
