use Rattle.std.proofs.Common.{◌≡◌, take}
use Rattle.std.specs.List.{concat}
use Rattle.sums.specs.Sums.{remainder_from}
use Rattle.sums.proofs.sum.crc32c_append.Given as goal

abbrev pub invariant-loop-eight : goal.invariant-loop-eight
invariant-loop-eight l = record { so_far : l.remainder ≡ remainder_from l.initial.remainder (concat (take l.eight-index l.eights)) }

abbrev pub invariant-loop-byte : goal.invariant-loop-byte
invariant-loop-byte l = record { so_far : l.remainder ≡ remainder_from l.initial.remainder (take l.byte-index l.last) }
