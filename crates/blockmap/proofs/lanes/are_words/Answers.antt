use Rattle.std.proofs.Common.{arith}
use Rattle.blockmap.proofs.lanes.are_words.Goals as goal

pub returns : goal.returns
returns c k = omega (arith, c.type_inv.entries k)
