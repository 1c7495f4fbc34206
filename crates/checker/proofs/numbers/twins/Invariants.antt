use Rattle.checker.specs.Rows.{rows_of}
use Rattle.checker.proofs.TwinLaws.{AreTwinsTo}
use Rattle.checker.proofs.numbers.twins.Given as goal

abbrev pub invariant-loop-l : goal.invariant-loop-l
invariant-loop-l l = AreTwinsTo l.trees.items (rows_of l.rows) l.k l.place l.bits l.l
