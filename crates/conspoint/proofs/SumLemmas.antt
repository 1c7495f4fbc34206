-- How many blocks of a file are changed.
use Rattle.std.proofs.Common.{◌≡◌, ℕ, zero, suc, ◌+◌, ◌-◌, ◌<◌, ◌≤◌, true, false, inl, inr, sym, subst, arith}
use Rattle.std.specs.Prelude.{min, nat_lt}
use Rattle.std.specs.Ordering.{nat_cmp}
use Rattle.std.specs.BTreeMap as tree
use Rattle.std.proofs.lemmas.Bool.{cases_lt}
use Rattle.std.proofs.lemmas.Bool.Decides.{nat_tests}
use Rattle.images.specs.Sums.{sum_below}
use Rattle.images.proofs.SumLaws.{one_more, sums_rise}
use Rattle.blocktree.specs.Trees.{IsChanged}
use Rattle.blocktree.proofs.SlotLaws.{changed_slot, one_at_most}
use Rattle.blocktree.specs.declared.tree.BlockTree.{BlockTree}
use Rattle.conspoint.specs.Space.{block_stores, changed_blocks}

-- a changed block is one to store
pub block_counts : (t : BlockTree) (first i : ℕ) → first ≤ i → IsChanged t i → block_stores t first i ≡ 1
block_counts t first i le changed =
    let no : nat_lt i first ≡ false = grind (arith, nat_tests) in
    rw no (changed_slot (tree.get nat_cmp t.slots i) changed)

block_at_most : (t : BlockTree) (first i : ℕ) → block_stores t first i ≤ min 1 (i + 1 - first)
block_at_most t first i = elim (cases_lt i first) [
  | inl lt ↦ (let yes : nat_lt i first ≡ true = grind (arith, nat_tests, lt) in rw yes (omega arith))
  | inr ge ↦ (let no : nat_lt i first ≡ false = grind (arith, nat_tests, ge) in rw no (omega (arith, ge, one_at_most (tree.get nat_cmp t.slots i))))
]

-- no more are changed than there are
pub changed_within : (t : BlockTree) (first n : ℕ) → changed_blocks t first n ≤ n - first
unfolding sum_below
changed_within t first zero = omega arith
changed_within t first (suc n) = omega (arith, changed_within t first n, block_at_most t first n)

-- one changed block more is counted
pub added_one : (t : BlockTree) (first from i count : ℕ) → first ≤ i → from ≤ i → i < count → IsChanged t i
    → changed_blocks t first (min from count) + 1 ≤ changed_blocks t first (min (i + 1) count)
added_one t first from i count le late low changed =
    let one = block_counts t first i le changed in
    let before = sums_rise (block_stores t first) (min from count) i (omega (arith, late)) in
    let end : min (i + 1) count ≡ i + 1 = omega (arith, low) in
    subst (λ (n : ℕ). changed_blocks t first (min from count) + 1 ≤ changed_blocks t first n) (sym end)
    (omega (arith, one, before, one_more (block_stores t first) i))
