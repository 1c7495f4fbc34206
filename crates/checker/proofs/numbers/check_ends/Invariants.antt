use Rattle.checker.specs.Rows.{rows_of}
use Rattle.checker.proofs.EachLaws.{Each}
use Rattle.checker.proofs.RowLaws.{Ends}
use Rattle.checker.proofs.numbers.check_ends.Given as goal

abbrev pub invariant-loop-k : goal.invariant-loop-k
invariant-loop-k l = Each (Ends l.i (rows_of l.rows)) l.k l.fn.trees.items l.trees.items
