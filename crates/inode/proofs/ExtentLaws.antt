-- Stored blocks, counted one after the other.
use Rattle.std.proofs.Common.{◌≢◌, inl, inr, ℕ, ◌+◌, ◌*◌, ◌<◌, ◌≤◌, Bool, add-one, sym, ◌∙◌, arith}
use Rattle.std.specs.Prelude.{IsTrue, IsFalse}
use Rattle.std.proofs.lemmas.Bool.{cases_lt, false≢true}
use Rattle.model.specs.Counting.{Counts}
use Rattle.model.specs.Holes.{CountsStored}
use Rattle.model.proofs.CountLemmas.{one_more, same_count}
use Rattle.blocktree.specs.Places.{block_count}

module _ (stored : ℕ → Bool) where
  -- a block below another is stored
  abbrev IsStoredBelow : ℕ → ℕ → Type 0
  IsStoredBelow end k = (k < end) × IsTrue (stored k)

  -- where none is stored from one on and before another, one that is stored lies before the first
  early : (from to k : ℕ) → ((i : ℕ) → from ≤ i → i < to → IsFalse (stored i)) → k < to → IsTrue (stored k) → k < from
  early from to k holes low is = elim (cases_lt k from) [
    | inl below ↦ below
    | inr late ↦ absurd (false≢true (sym (holes k late low) ∙ is))
  ]

  pub one_more_stored : (from i count : ℕ) → from ≤ i → ((k : ℕ) → from ≤ k → k < i → IsFalse (stored k)) → IsTrue (stored i) → Counts (IsStoredBelow from) count → Counts (IsStoredBelow (i + 1)) (count + 1)
  one_more_stored from i count le holes is counts =
      rw (add-one count) (one_more (IsStoredBelow from) (IsStoredBelow (i + 1)) i count (omega arith, is) (λ k. (forth k, back k)) counts)
    where
      forth : (k : ℕ) → IsStoredBelow from k → IsStoredBelow (i + 1) k × (k ≢ i)
      forth k below = ((omega (arith, below.0, le), below.1), λ e. omega (arith, below.0, le, e))

      back : (k : ℕ) → IsStoredBelow (i + 1) k × (k ≢ i) → IsStoredBelow from k
      back k below = (early from i k holes (omega (arith, below.0.0, below.1)) below.0.1, below.0.1)

  pub all_stored : (from size count : ℕ) → from ≤ block_count size → ((k : ℕ) → from ≤ k → k < block_count size → IsFalse (stored k)) → Counts (IsStoredBelow from) count → CountsStored stored size count
  all_stored from size count le holes counts = same_count (IsStoredBelow from) _ count (λ k. (forth k, back k)) counts
    where
      forth : (k : ℕ) → IsStoredBelow from k → (4096 * k < size) × IsTrue (stored k)
      forth k below = (omega (arith, below.0, le), below.1)

      back : (k : ℕ) → (4096 * k < size) × IsTrue (stored k) → IsStoredBelow from k
      back k within = (early from (block_count size) k holes (omega (arith, within.0)) within.1, within.1)
