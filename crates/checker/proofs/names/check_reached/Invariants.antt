use Rattle.std.proofs.Common.{ℕ, ◌<◌, ◌≤◌}
use Rattle.checker.specs.Findings.{HasOneName}
use Rattle.checker.specs.Links.{IsRow}
use Rattle.checker.specs.declared.names.NumberRow.{NumberRow}
use Rattle.checker.proofs.names.check_reached.Given as goal

abbrev pub invariant-loop-number : goal.invariant-loop-number
invariant-loop-number l =
    (n : ℕ) (row : NumberRow) → n < l.number → IsRow l.table.items n row → HasOneName row.kind → 1 ≤ row.names
