use Rattle.std.proofs.Common.{refl, arith}
use Rattle.layout.specs.Bytes.{zeros}
use Rattle.placement.proofs.InlineLaws.{zero_byte}
use Rattle.placement.proofs.inline.head_of.Goals as goal

pub loop-i-init : goal.loop-i-init
unfolding zeros
loop-i-init c = record { count = refl; below = λ k lt. absurd (omega (arith, lt)); above = λ k le. zero_byte 128 k }
