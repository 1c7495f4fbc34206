use Rattle.std.proofs.Common.{length, ap, ◌∙◌}
use Rattle.layout.proofs.ZeroLaws.{length-zeros}
use Rattle.making.proofs.empty_disk.EmptyDiskBlocks.make_resident.Goals as goal

pub returns-clause-whole : goal.returns-clause-whole
returns-clause-whole c = λ disk zero. ap length (zero c.args._place) ∙ length-zeros 4096
