use Rattle.std.proofs.Common.{ℕ, ◌-◌, ◌<◌, ◌≤◌, List}
use Rattle.std.specs.Prelude.{IsTrue}
use Rattle.blocktree.specs.Trees.{AreSettledPlaces, is_stored}
use Rattle.inode.proofs.extent.next_unstored.Given as goal

abbrev pub invariant-loop-next : goal.invariant-loop-next
invariant-loop-next l = record {
  from : l.from ≤ l.i;
  within : l.i ≤ l.to;
  before : (disk : ℕ → List ℕ) → AreSettledPlaces disk l.tree l.places → (k : ℕ) → l.from ≤ k → k < l.i → IsTrue (is_stored disk l.tree k);
}

abbrev pub decreases-loop-next : goal.decreases-loop-next
decreases-loop-next l = l.to - l.i
