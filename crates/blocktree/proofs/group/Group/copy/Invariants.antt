use Rattle.std.proofs.Common.{◌≡◌, ℕ, ◌<◌, ◌≤◌, length}
use Rattle.std.specs.Prelude.{slice_index_or}
use Rattle.layout.specs.declared.pointer.Pointer.TheVariants.{Hole}
use Rattle.blocktree.proofs.group.Group.copy.Given as goal

abbrev pub invariant-loop-r : goal.invariant-loop-r
invariant-loop-r l = record {
  count : length l.all ≡ 1024;
  each : (k : ℕ) → k < l.r → slice_index_or l.all k Hole ≡ slice_index_or l.self k Hole;
  behind : (k : ℕ) → l.r ≤ k → slice_index_or l.all k Hole ≡ Hole;
}
