use Rattle.std.proofs.Common.{arith}
use Rattle.blocktree.proofs.StoredLaws.{holes_before, settled_next, settled_none}
use Rattle.blocktree.proofs.tree.BlockTree.next_stored.Goals as goal

pub returns-in-Some-clause-before : goal.returns-in-Some-clause-before
returns-in-Some-clause-before c = λ disk are.
    holes_before disk c.args.self.now c.args.from c.args.to c.next_settled-settled.result c.in-Some.i
    (c.next_settled-settled.ensures.before disk are) (c.next_settled-settled.ensures.none disk are)
    (omega (arith, c.in-Some.ensures.found.1, c.unwrap_or.ensures)) c.in-Some.ensures.before

pub returns-in-None-clause-before : goal.returns-in-None-clause-before
returns-in-None-clause-before c = λ disk are.
    settled_next disk c.args.self.now c.args.from c.args.to c.next_settled-settled.result
    (c.next_settled-settled.ensures.before disk are)
    (λ i low high. c.in-None.ensures.none i low (omega (arith, high, c.unwrap_or.ensures)))

pub returns-in-None-clause-none : goal.returns-in-None-clause-none
returns-in-None-clause-none c = λ disk are.
    settled_none disk c.args.self.now c.args.from c.args.to c.next_settled-settled.result
    (c.next_settled-settled.ensures.none disk are)
    (λ i low high. c.in-None.ensures.none i low (omega (arith, high, c.unwrap_or.ensures)))
