use Rattle.std.proofs.Common.{ℕ, ◌-◌, ◌<◌, ◌≤◌, List}
use Rattle.std.specs.Prelude.{IsTrue}
use Rattle.model.specs.Counting.{Counts}
use Rattle.blocktree.specs.Trees.{AreSettledPlaces, is_stored}
use Rattle.inode.proofs.extent.stored_count.Given as goal

abbrev pub invariant-loop-i : goal.invariant-loop-i
invariant-loop-i l = record {
  fewer : l.stored ≤ l.from;
  within : l.from ≤ l.count;
  counts : (disk : ℕ → List ℕ) → AreSettledPlaces disk l.tree l.places → Counts (λ k. (k < l.from) × IsTrue (is_stored disk l.tree k)) l.stored;
}

abbrev pub decreases-loop-i : goal.decreases-loop-i
decreases-loop-i l = l.count - l.from
