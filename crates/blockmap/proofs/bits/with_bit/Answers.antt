use Rattle.blockmap.proofs.BitLemmas.{set_bit, clear_bit}
use Rattle.blockmap.proofs.bits.with_bit.Goals as goal

pub returns-then-is_in : goal.returns-then-is_in
returns-then-is_in c = rw c.if-is_in.true (set_bit c.args.entry c.args.set c.requires)

pub returns-else-is_in : goal.returns-else-is_in
returns-else-is_in c = rw c.if-is_in.false (clear_bit c.args.entry c.args.set c.ranges.entry.fits c.requires)
