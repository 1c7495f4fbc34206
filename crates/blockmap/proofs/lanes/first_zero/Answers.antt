use Rattle.std.proofs.Common.{arith}
use Rattle.blockmap.proofs.LaneLemmas.{none_before, none_more}
use Rattle.blockmap.proofs.lanes.first_zero.Goals as goal

pub returns-then-before-lt8-clause-least : goal.returns-then-before-lt8-clause-least
returns-then-before-lt8-clause-least c =
    none_before c.args.entries.now c.args.from c.loop-at.at c.before_zero_in-before.result (omega arith) c.before_zero_in-before.ensures c.loop-at.invariant.none

pub loop-at-preserved : goal.loop-at-preserved
loop-at-preserved c = record {
  from = omega arith;
  within = omega arith;
  none = none_more c.args.entries.now c.args.from c.loop-at.at c.before_zero_in-before.result (omega arith) c.before_zero_in-before.ensures (omega arith) c.loop-at.invariant.none;
}
