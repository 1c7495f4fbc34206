use Rattle.std.proofs.Common.{arith}
use Rattle.blocktree.specs.Trees.{is_stored}
use Rattle.inode.proofs.ExtentLaws.{one_more_stored, all_stored}
use Rattle.inode.proofs.extent.stored_count.Goals as goal

pub loop-i-preserved : goal.loop-i-preserved
loop-i-preserved c =
    let within = c.in-Some.ensures.within in
    record {
      fewer = omega (arith, within.0);
      within = omega (arith, within.1);
      counts = λ disk are.
          one_more_stored (is_stored disk c.args.tree.now) c.loop-i.from c.in-Some.i c.loop-i.stored within.0
          (c.in-Some.ensures.before disk are) (c.in-Some.ensures.stored disk are) (c.loop-i.invariant.counts disk are);
    }

pub returns : goal.returns
returns c = λ disk are.
    all_stored (is_stored disk c.args.tree.now) c.loop-i.from c.args.size c.loop-i.stored
    (omega (arith, c.loop-i.invariant.within, c.block_count-count.ensures))
    (λ k low high. c.in_default.ensures.none disk are k low (omega (arith, high, c.block_count-count.ensures)))
    (c.loop-i.invariant.counts disk are)
