use Rattle.std.proofs.Common.{[], sym}
use Rattle.sums.proofs.RemainderLaws.{sum-none}
use Rattle.sums.proofs.sum.crc32c.Goals as goal

pub returns : goal.returns
returns c = c.crc32c_append.ensures [] (sym sum-none)
