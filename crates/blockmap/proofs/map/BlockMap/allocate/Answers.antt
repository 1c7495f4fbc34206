use Rattle.std.proofs.Common.{refl, rules}
use Rattle.blockmap.proofs.SpaceLemmas.{left_fewer, left_none}
use Rattle.blockmap.proofs.map.BlockMap.allocate.Goals as goal

pub returns-in_err-found-clause-none_left : goal.returns-in_err-found-clause-none_left
returns-in_err-found-clause-none_left c =
    let none = left_none c.args.self.now c.in_err-found.ensures.none in
    search (rules, none)

pub returns-clause-fewer : goal.returns-clause-fewer
returns-clause-fewer c =
    let found = c.in_ok-found.ensures.found in
    left_fewer c.args.self.now _ c.in_ok-found.found refl refl refl found.0 found.1 found.2 c.in_ok-found.ensures.least
