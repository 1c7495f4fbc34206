use Rattle.std.proofs.Common.{arith}
use Rattle.std.proofs.lemmas.Grind.{common_steps}
use Rattle.blocktree.proofs.PlaceMapLaws.{no_node}
use Rattle.blocktree.proofs.group.Group.copy.Goals as goal

pub loop-r-init : goal.loop-r-init
loop-r-init c = record { count = grind (arith, common_steps); each = λ k lt. absurd (omega (arith, lt)); behind = λ k le. no_node 1024 k }
