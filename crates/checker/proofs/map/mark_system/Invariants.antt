use Rattle.checker.proofs.SystemLaws.{IsSystemTo, MarksSystem}
use Rattle.checker.proofs.map.mark_system.Given as goal

abbrev pub invariant-loop-k : goal.invariant-loop-k
invariant-loop-k l = MarksSystem l.fn.marks l.marks (IsSystemTo l.root l.k)
