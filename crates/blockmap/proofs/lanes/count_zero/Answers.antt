use Rattle.std.proofs.Common.{arith, ◌==◌}
use Rattle.blockmap.proofs.LaneLemmas.{count_more}
use Rattle.blockmap.proofs.lanes.count_zero.Goals as goal

pub loop-at-preserved : goal.loop-at-preserved
loop-at-preserved c = record {
  within = omega arith;
  counted = omega (arith, c.loop-at.invariant.counted, c.zeros_in.ensures, count_more (λ e. e == 0) c.args.entries.now c.loop-at.at 8);
}
