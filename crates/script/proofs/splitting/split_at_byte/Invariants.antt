use Rattle.std.proofs.Common.{◌≡◌, ◌≤◌, ◌++◌, ◌==◌, length, map}
use Rattle.std.specs.List.{slice_split}
use Rattle.script.proofs.splitting.split_at_byte.Given as goal

abbrev pub invariant-loop-end : goal.invariant-loop-end
invariant-loop-end l = record {
  within : length l.rest ≤ length l.bytes;
  parts : map (λ part. part.now) l.parts.items ++ slice_split (λ b. b == l.separator) l.rest ≡ slice_split (λ b. b == l.separator) l.bytes;
}

abbrev pub decreases-loop-end : goal.decreases-loop-end
decreases-loop-end l = length l.rest
