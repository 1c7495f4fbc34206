use Rattle.checker.proofs.EachLaws.{Each}
use Rattle.checker.proofs.RowLaws.{Adds}
use Rattle.checker.proofs.numbers.add_to_each.Given as goal

abbrev pub invariant-loop-k : goal.invariant-loop-k
invariant-loop-k l = Each (Adds l.bits l.fault) l.k l.fn.trees.items l.trees.items
