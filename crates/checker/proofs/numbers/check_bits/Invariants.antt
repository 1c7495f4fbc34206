use Rattle.checker.proofs.EachLaws.{Each}
use Rattle.checker.proofs.RowLaws.{Compares}
use Rattle.checker.proofs.numbers.check_bits.Given as goal

abbrev pub invariant-loop-k : goal.invariant-loop-k
invariant-loop-k l = Each (Compares l.number l.inode.kind l.bits) l.k l.fn.trees.items l.trees.items
