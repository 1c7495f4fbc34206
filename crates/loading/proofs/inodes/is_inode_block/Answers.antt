use Rattle.std.proofs.Common.{arith}
use Rattle.loading.proofs.EndLaws.{behind_zero, zeros_behind}
use Rattle.loading.proofs.inodes.is_inode_block.Goals as goal

pub returns : goal.returns
returns c = (
  (λ zero. record {
    each = λ k lt. c.loop-k.invariant k (omega (arith, lt, c.loop-k-test.false));
    behind = zeros_behind c.args.bytes.now c.told-bytes ((c.is_zero_from.ensures).0 zero);
  }),
  (λ is. (c.is_zero_from.ensures).1 (behind_zero c.args.bytes.now is.behind)),
)
