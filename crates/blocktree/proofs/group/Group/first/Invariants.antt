use Rattle.std.proofs.Common.{◌≡◌, ℕ, ◌<◌, ◌≤◌}
use Rattle.std.specs.Prelude.{slice_index_or}
use Rattle.layout.specs.declared.pointer.Pointer.TheVariants.{Hole}
use Rattle.blocktree.proofs.group.Group.first.Given as goal

abbrev pub invariant-loop-r : goal.invariant-loop-r
invariant-loop-r l = record {
  below : (k : ℕ) → k < l.r → slice_index_or l.first k Hole ≡ slice_index_or l.self k Hole;
  behind : (k : ℕ) → l.r ≤ k → slice_index_or l.first k Hole ≡ Hole;
}
