use Rattle.std.proofs.Common.{◌-◌}
use Rattle.std.specs.Int.{div_ceil}
use Rattle.blocktree.proofs.PlaceMapLaws.{AreFirst}
use Rattle.blocktree.proofs.place_map.PlaceMap.first.Given as goal

abbrev pub invariant-loop-j : goal.invariant-loop-j
invariant-loop-j l = record { so_far : AreFirst l.self l.first l.count l.from }

abbrev pub decreases-loop-j : goal.decreases-loop-j
decreases-loop-j l = div_ceil l.count l.fan - l.from
