use Rattle.std.proofs.Common.{rules}
use Rattle.checker.proofs.nodes.read_indirect.Goals as goal

pub returns-then-not-branch-clause-bad : goal.returns-then-not-branch-clause-bad
returns-then-not-branch-clause-bad g c = λ disk shows _ good. c.in_ok-read_into.ensures.whole disk shows (search rules) good.size
