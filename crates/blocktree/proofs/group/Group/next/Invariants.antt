use Rattle.std.proofs.Common.{◌≡◌, ℕ, ◌<◌, ◌≤◌}
use Rattle.std.specs.Prelude.{slice_index_or}
use Rattle.layout.specs.declared.pointer.Pointer.TheVariants.{Hole}
use Rattle.blocktree.proofs.group.Group.next.Given as goal

abbrev pub invariant-loop-r : goal.invariant-loop-r
invariant-loop-r l = record {
  before : (k : ℕ) → l.from ≤ k → k < l.r → slice_index_or l.self k Hole ≡ Hole;
}
