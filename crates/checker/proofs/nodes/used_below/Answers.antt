use Rattle.std.proofs.Common.{◌<◌, ◌^◌, arith}
use Rattle.checker.proofs.nodes.used_below.Goals as goal

pub returns-clause-used : goal.returns-clause-used
returns-clause-used c =
    let low : c.nodes_at.result < 2 ^ 32 = omega arith in
    omega (arith, low, c.nodes_at.ensures, c.first_below-first.ensures, c.saturating_sub.ensures)

pub returns-clause-low : goal.returns-clause-low
returns-clause-low c some =
    let low : c.nodes_at.result < 2 ^ 32 = omega arith in
    omega (arith, low, some, c.first_below-first.ensures, c.saturating_sub.ensures)
