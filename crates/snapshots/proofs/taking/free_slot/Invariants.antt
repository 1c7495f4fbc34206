use Rattle.std.proofs.Common.{◌≡◌, ◌<◌, ℕ}
use Rattle.std.specs.Prelude.{slice_index_or}
use Rattle.layout.specs.declared.pointer.Pointer.TheVariants.{Hole}
use Rattle.snapshots.proofs.taking.free_slot.Given as goal

abbrev pub invariant-loop-k : goal.invariant-loop-k
invariant-loop-k l = record { used : (j : ℕ) → j < l.k → slice_index_or l.root.snapshots j Hole ≡ Hole → ⊥ }
